-- What a listing of a text is. Assumes nothing.
use Rattle.std.specs.Prelude.{◌≡◌, ℕ, ◌+◌, List, [], ◌∷◌, ◌++◌, length, map, min, Some, None, Ok, Option}
use Rattle.std.specs.Option.{option_map}
use Rattle.names.specs.Numbering.{known_after, symbol_in}
use Rattle.names.specs.declared.vocabulary.Vocabulary.{Vocabulary}
use Rattle.models.specs.Sheets.{table_answer}
use Rattle.grammar.specs.Notations.{Notation}
use Rattle.grammar.specs.Declarations.{Declaration, all_signs, words}
use Rattle.grammar.specs.Declarations.Sign.{element, declared}
use Rattle.grammar.specs.Faults.{Cause, number, SignStands, parts_of, Gives}
use Rattle.grammar.specs.Meaning.{tree_of}
use Rattle.text.specs.Causes.{at_text, text_notice, Explained}
use Rattle.text.specs.Law.{names_of}
use Rattle.text.specs.declared.fault.TextFault.{TextFault}
use Rattle.listing.specs.declared.listed.Listed.{Listed}
use Rattle.listing.specs.declared.listing.Listing.{Listing}

-- e is the declaration d, where ks are the names known before the text, and before the declarations that stand before d
pub record ElementIs (ν : Notation) (text : List ℕ) (ks : List (List ℕ)) (before : List Declaration) (d : Declaration) (e : Listed) : Type 0 where
  pub name : e.name.now ≡ d.name
  pub symbol : e.symbol ≡ symbol_in (known_after ks (names_of (before ++ (d ∷ [])))) d.name
  pub place : SignStands ν text e.place (all_signs before ++ (element ∷ [])) (declared d.name)
  pub parts : e.parts.items ≡ parts_of (known_after ks (names_of before)) d
  pub model : table_answer e.parts.items ≡ Ok (tree_of (known_after ks (names_of (before ++ (d ∷ [])))) (words d.content))

-- the elements are those declarations, in order
abbrev pub ElementsOf : Notation → List ℕ → List (List ℕ) → List Declaration → List Declaration → List Listed → Type 0
ElementsOf ν text ks before [] [] = Unit {0}
ElementsOf ν text ks before [] (e ∷ es) = ⊥
ElementsOf ν text ks before (d ∷ ds) [] = ⊥
ElementsOf ν text ks before (d ∷ ds) (e ∷ es) = ElementIs ν text ks before d e × ElementsOf ν text ks (before ++ (d ∷ [])) ds es

-- the fault tells of the first one of the text, behind n declarations; there is none where the text ends without
abbrev pub FaultIs : Notation → Vocabulary → List ℕ → ℕ → Option (Cause × ℕ) → Option TextFault → Type 0
FaultIs ν v text n None None = Unit {0}
FaultIs ν v text n None (Some f) = ⊥
FaultIs ν v text n (Some (c, q)) None = ⊥
FaultIs ν v text n (Some (c, q)) (Some f) =
    (text_notice f ≡ record { notice = at_text (number ν c) q; texts = v.texts; declarations = n }) × Explained ν v.names text q f.cause

-- all that the text gives, over the vocabulary v: its declarations, and its end or its first fault
pub record ListingOf (ν : Notation) (v : Vocabulary) (text : List ℕ) (l : Listing) : Type 0 where
  pub ds : List Declaration
  pub end : Option (Cause × ℕ)
  pub gives : Gives ν v.names text ds end
  pub elements : ElementsOf ν text v.names [] ds l.elements.items
  pub fault : FaultIs ν v text (length ds) end l.fault
  pub names : l.vocabulary.names ≡ known_after v.names (names_of ds)
  pub texts : l.vocabulary.texts ≡ min 65535 (v.texts + 1)

-- two listings of one text over one vocabulary have the same names, symbols and models, tell of the same fault, and leave
-- the same vocabulary
abbrev pub ListsOne : Notation → Type 0
ListsOne ν =
    (v : Vocabulary) (text : List ℕ) (a b : Listing) → ListingOf ν v text a → ListingOf ν v text b
    → (map (λ e. e.name.now) a.elements.items ≡ map (λ e. e.name.now) b.elements.items)
    × (map (λ e. e.symbol) a.elements.items ≡ map (λ e. e.symbol) b.elements.items)
    × (map (λ e. e.parts.items) a.elements.items ≡ map (λ e. e.parts.items) b.elements.items)
    × (option_map text_notice a.fault ≡ option_map text_notice b.fault)
    × (a.vocabulary ≡ b.vocabulary)
