-- Signs that name nothing and begin no declaration: the elements stay as they are. Assumes nothing.
use Rattle.std.proofs.Common.{◌≡◌, ℕ, suc, Bool, true, false, cond, List, [], ◌∷◌, ◌++◌, Some, sym, refl, ap, ◌∙◌, subst}
use Rattle.std.specs.Str.{bytes_eq}
use Rattle.grammar.specs.Notations.Notation.{dtd}
use Rattle.grammar.specs.Words.Sign.{names, empties, opens, closes, suffix, separator}
use Rattle.grammar.specs.Declarations.{Sign, sign_bytes}
use Rattle.grammar.specs.Declarations.Sign.{element, declared, empty_word, any_word, pcdata_word, inner, ends}
use Rattle.grammar.specs.Faults.{EndsWell, Faultless, names_among, begun, is_declared}
use Rattle.grammar.specs.Machine.{Spot, SignFits, go, spelled, refused}
use Rattle.grammar.proofs.Steps.{spelled_on}
use Rattle.names.specs.Numbering.{known_after}
use Rattle.text.specs.Cursors.{Moved, rest_of}
use Rattle.text.specs.Declaring.{ReadTo}
use Rattle.text.specs.Progress.{ElementsAre}
use Rattle.text.specs.declared.cursor.Cursor.{Cursor}
use Rattle.text.specs.declared.elements.Elements.{Elements}
use Rattle.text.proofs.Walking.{over_sign}

-- no name, and no declaration begins
abbrev pub IsQuiet : Sign → Type 0
IsQuiet element = ⊥
IsQuiet (declared m) = ⊥
IsQuiet (inner (names m)) = ⊥
IsQuiet s = Unit {0}

names_alone : (s : Sign) → IsQuiet s → names_among (s ∷ []) ≡ []
names_alone element h = absurd h
names_alone (declared m) h = absurd h
names_alone empty_word h = refl
names_alone any_word h = refl
names_alone pcdata_word h = refl
names_alone (inner (names m)) h = absurd h
names_alone (inner empties) h = refl
names_alone (inner opens) h = refl
names_alone (inner closes) h = refl
names_alone (inner (suffix m)) h = refl
names_alone (inner (separator j)) h = refl
names_alone ends h = refl

pub names_quiet : (ss : List Sign) (s : Sign) → IsQuiet s → names_among (ss ++ (s ∷ [])) ≡ names_among ss
names_quiet [] s h = names_alone s h
names_quiet (element ∷ ss) s h = names_quiet ss s h
names_quiet (declared m ∷ ss) s h = ap (λ xs. m ∷ xs) (names_quiet ss s h)
names_quiet (empty_word ∷ ss) s h = names_quiet ss s h
names_quiet (any_word ∷ ss) s h = names_quiet ss s h
names_quiet (pcdata_word ∷ ss) s h = names_quiet ss s h
names_quiet (inner (names m) ∷ ss) s h = ap (λ xs. m ∷ xs) (names_quiet ss s h)
names_quiet (inner empties ∷ ss) s h = names_quiet ss s h
names_quiet (inner opens ∷ ss) s h = names_quiet ss s h
names_quiet (inner closes ∷ ss) s h = names_quiet ss s h
names_quiet (inner (suffix m) ∷ ss) s h = names_quiet ss s h
names_quiet (inner (separator j) ∷ ss) s h = names_quiet ss s h
names_quiet (ends ∷ ss) s h = names_quiet ss s h

begun_alone : (s : Sign) → IsQuiet s → begun dtd (s ∷ []) ≡ 0
begun_alone element h = absurd h
begun_alone (declared m) h = absurd h
begun_alone empty_word h = refl
begun_alone any_word h = refl
begun_alone pcdata_word h = refl
begun_alone (inner (names m)) h = absurd h
begun_alone (inner empties) h = refl
begun_alone (inner opens) h = refl
begun_alone (inner closes) h = refl
begun_alone (inner (suffix m)) h = refl
begun_alone (inner (separator j)) h = refl
begun_alone ends h = refl

pub begun_quiet : (ss : List Sign) (s : Sign) → IsQuiet s → begun dtd (ss ++ (s ∷ [])) ≡ begun dtd ss
begun_quiet [] s h = begun_alone s h
begun_quiet (element ∷ ss) s h = ap suc (begun_quiet ss s h)
begun_quiet (declared m ∷ ss) s h = begun_quiet ss s h
begun_quiet (empty_word ∷ ss) s h = begun_quiet ss s h
begun_quiet (any_word ∷ ss) s h = begun_quiet ss s h
begun_quiet (pcdata_word ∷ ss) s h = begun_quiet ss s h
begun_quiet (inner (names m) ∷ ss) s h = begun_quiet ss s h
begun_quiet (inner empties ∷ ss) s h = begun_quiet ss s h
begun_quiet (inner opens ∷ ss) s h = begun_quiet ss s h
begun_quiet (inner closes ∷ ss) s h = begun_quiet ss s h
begun_quiet (inner (suffix m) ∷ ss) s h = begun_quiet ss s h
begun_quiet (inner (separator j) ∷ ss) s h = begun_quiet ss s h
begun_quiet (ends ∷ ss) s h = begun_quiet ss s h

declared_alone : (n : List ℕ) (s : Sign) → IsQuiet s → is_declared n (s ∷ []) ≡ false
declared_alone n element h = absurd h
declared_alone n (declared m) h = absurd h
declared_alone n empty_word h = refl
declared_alone n any_word h = refl
declared_alone n pcdata_word h = refl
declared_alone n (inner (names m)) h = absurd h
declared_alone n (inner empties) h = refl
declared_alone n (inner opens) h = refl
declared_alone n (inner closes) h = refl
declared_alone n (inner (suffix m)) h = refl
declared_alone n (inner (separator j)) h = refl
declared_alone n ends h = refl

pub declared_quiet : (n : List ℕ) (ss : List Sign) (s : Sign) → IsQuiet s → is_declared n (ss ++ (s ∷ [])) ≡ is_declared n ss
declared_quiet n [] s h = declared_alone n s h
declared_quiet n (element ∷ ss) s h = declared_quiet n ss s h
declared_quiet n (declared m ∷ ss) s h = ap (λ x. cond (bytes_eq m n) true x) (declared_quiet n ss s h)
declared_quiet n (empty_word ∷ ss) s h = declared_quiet n ss s h
declared_quiet n (any_word ∷ ss) s h = declared_quiet n ss s h
declared_quiet n (pcdata_word ∷ ss) s h = declared_quiet n ss s h
declared_quiet n (inner (names m) ∷ ss) s h = declared_quiet n ss s h
declared_quiet n (inner empties ∷ ss) s h = declared_quiet n ss s h
declared_quiet n (inner opens ∷ ss) s h = declared_quiet n ss s h
declared_quiet n (inner closes ∷ ss) s h = declared_quiet n ss s h
declared_quiet n (inner (suffix m) ∷ ss) s h = declared_quiet n ss s h
declared_quiet n (inner (separator j) ∷ ss) s h = declared_quiet n ss s h
declared_quiet n (ends ∷ ss) s h = declared_quiet n ss s h

pub elements_quiet : (ks : List (List ℕ)) (ss : List Sign) (s : Sign) (e : Elements) → IsQuiet s → ElementsAre dtd ks ss e → ElementsAre dtd ks (ss ++ (s ∷ [])) e
elements_quiet ks ss s e h r = record {
  names = r.names ∙ ap (known_after ks) (sym (names_quiet ss s h));
  begun = r.begun ∙ sym (begun_quiet ss s h);
  declared = (
    (λ n known.
        let same = declared_quiet n ss s h in
        let told = r.declared.0 n known in
        ((λ is. told.0 (sym same ∙ is)), (λ has. same ∙ told.1 has))),
    r.declared.1,
  );
}

ends_quiet : (s : Sign) (rest : List ℕ) → IsQuiet s → EndsWell s rest
ends_quiet element rest h = absurd h
ends_quiet (declared m) rest h = absurd h
ends_quiet empty_word rest h = tt
ends_quiet any_word rest h = tt
ends_quiet pcdata_word rest h = tt
ends_quiet (inner (names m)) rest h = absurd h
ends_quiet (inner empties) rest h = tt
ends_quiet (inner opens) rest h = tt
ends_quiet (inner closes) rest h = tt
ends_quiet (inner (suffix m)) rest h = tt
ends_quiet (inner (separator j)) rest h = tt
ends_quiet ends rest h = tt

-- over such a sign
pub over_quiet : (ks : List (List ℕ)) (bytes : List ℕ) (σ : Spot) (h : Bool) (s : Sign) (τ : Spot) (old new : Cursor) (e : Elements) → ReadTo ks bytes σ h old e
    → IsQuiet s → refused h σ s ≡ false → go σ s ≡ Some τ → SignFits s → Moved old (sign_bytes dtd s) new → Faultless dtd ks (spelled σ) s → ReadTo ks bytes τ false new e
over_quiet ks bytes σ h s τ old new e r quiet may goes fit m one = record {
  cursor = over_sign ks bytes σ h s τ old new r.cursor may goes fit m (ends_quiet s (rest_of new) quiet) one;
  elements =
      subst (λ ss. ElementsAre dtd ks ss e) (sym (spelled_on ks bytes old.at σ h s τ r.cursor.at goes))
      (elements_quiet ks (spelled σ) s e quiet r.elements);
}
