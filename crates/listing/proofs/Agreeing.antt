-- Two listings of one text agree. Assumes nothing.
use Rattle.std.proofs.Common.{◌≡◌, ℕ, List, [], ◌∷◌, ◌++◌, length, map, Some, None, Option, sym, refl, ap, ◌∙◌, subst}
use Rattle.std.specs.Option.{option_map}
use Rattle.names.specs.Numbering.{known_after}
use Rattle.names.specs.declared.vocabulary.Vocabulary.{Vocabulary}
use Rattle.grammar.specs.Notations.{Notation}
use Rattle.grammar.specs.Declarations.{Declaration}
use Rattle.grammar.specs.Faults.{Cause, GivesOne}
use Rattle.text.specs.Causes.{text_notice}
use Rattle.text.specs.Law.{names_of}
use Rattle.text.specs.declared.fault.TextFault.{TextFault}
use Rattle.listing.specs.Listings.{ElementsOf, FaultIs, ListsOne}
use Rattle.listing.specs.declared.listed.Listed.{Listed}

module _ (ν : Notation) (text : List ℕ) (ks : List (List ℕ)) where
  same_names : (before ds : List Declaration) (es fs : List Listed) → ElementsOf ν text ks before ds es → ElementsOf ν text ks before ds fs
      → map (λ e. e.name.now) es ≡ map (λ e. e.name.now) fs
  same_names before [] [] [] a b = refl
  same_names before [] [] (f ∷ fs) a b = absurd b
  same_names before [] (e ∷ es) fs a b = absurd a
  same_names before (d ∷ ds) [] fs a b = absurd a
  same_names before (d ∷ ds) (e ∷ es) [] a b = absurd b
  same_names before (d ∷ ds) (e ∷ es) (f ∷ fs) (a, more) (b, rest) =
      ap (λ x. x ∷ map (λ y. y.name.now) es) (a.name ∙ sym b.name) ∙ ap (λ xs. f.name.now ∷ xs) (same_names (before ++ (d ∷ [])) ds es fs more rest)

  same_symbols : (before ds : List Declaration) (es fs : List Listed) → ElementsOf ν text ks before ds es → ElementsOf ν text ks before ds fs
      → map (λ e. e.symbol) es ≡ map (λ e. e.symbol) fs
  same_symbols before [] [] [] a b = refl
  same_symbols before [] [] (f ∷ fs) a b = absurd b
  same_symbols before [] (e ∷ es) fs a b = absurd a
  same_symbols before (d ∷ ds) [] fs a b = absurd a
  same_symbols before (d ∷ ds) (e ∷ es) [] a b = absurd b
  same_symbols before (d ∷ ds) (e ∷ es) (f ∷ fs) (a, more) (b, rest) =
      ap (λ x. x ∷ map (λ y. y.symbol) es) (a.symbol ∙ sym b.symbol) ∙ ap (λ xs. f.symbol ∷ xs) (same_symbols (before ++ (d ∷ [])) ds es fs more rest)

  same_parts : (before ds : List Declaration) (es fs : List Listed) → ElementsOf ν text ks before ds es → ElementsOf ν text ks before ds fs
      → map (λ e. e.parts.items) es ≡ map (λ e. e.parts.items) fs
  same_parts before [] [] [] a b = refl
  same_parts before [] [] (f ∷ fs) a b = absurd b
  same_parts before [] (e ∷ es) fs a b = absurd a
  same_parts before (d ∷ ds) [] fs a b = absurd a
  same_parts before (d ∷ ds) (e ∷ es) [] a b = absurd b
  same_parts before (d ∷ ds) (e ∷ es) (f ∷ fs) (a, more) (b, rest) =
      ap (λ x. x ∷ map (λ y. y.parts.items) es) (a.parts ∙ sym b.parts) ∙ ap (λ xs. f.parts.items ∷ xs) (same_parts (before ++ (d ∷ [])) ds es fs more rest)

same_fault : (ν : Notation) (v : Vocabulary) (text : List ℕ) (n : ℕ) (end : Option (Cause × ℕ)) (f g : Option TextFault) → FaultIs ν v text n end f → FaultIs ν v text n end g
    → option_map text_notice f ≡ option_map text_notice g
same_fault ν v text n None None None a b = refl
same_fault ν v text n None None (Some g) a b = absurd b
same_fault ν v text n None (Some f) g a b = absurd a
same_fault ν v text n (Some (c, q)) None g a b = absurd a
same_fault ν v text n (Some (c, q)) (Some f) None a b = absurd b
same_fault ν v text n (Some (c, q)) (Some f) (Some g) (a, why) (b, because) = ap Some (a ∙ sym b)

same_vocabulary : (v w : Vocabulary) → v.names ≡ w.names → v.texts ≡ w.texts → v ≡ w
same_vocabulary v w names texts = ap (λ x. record { names = x; texts = v.texts }) names ∙ ap (λ n. record { names = w.names; texts = n }) texts

pub lists_one : (ν : Notation) → GivesOne ν → ListsOne ν
lists_one ν one v text a b x y =
    let (ds, end) = one v.names text x.ds y.ds x.end y.end x.gives y.gives in
    let elements : ElementsOf ν text v.names [] x.ds b.elements.items = subst (λ es. ElementsOf ν text v.names [] es b.elements.items) (sym ds) y.elements in
    let fault : FaultIs ν v text (length x.ds) x.end b.fault =
    subst (λ n. FaultIs ν v text n x.end b.fault) (ap length (sym ds)) (subst (λ z. FaultIs ν v text (length y.ds) z b.fault) (sym end) y.fault) in (
      same_names ν text v.names [] x.ds a.elements.items b.elements.items x.elements elements,
      same_symbols ν text v.names [] x.ds a.elements.items b.elements.items x.elements elements,
      same_parts ν text v.names [] x.ds a.elements.items b.elements.items x.elements elements,
      same_fault ν v text (length x.ds) x.end a.fault b.fault x.fault fault,
      same_vocabulary a.vocabulary b.vocabulary (x.names ∙ ap (λ es. known_after v.names (names_of es)) ds ∙ sym y.names) (x.texts ∙ sym y.texts),
    )
