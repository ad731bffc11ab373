-- What some texts give. Assumes nothing.
use Rattle.std.proofs.Common.{◌<◌, inl, true, false, List, [], ◌∷◌, Some, None, refl, ap, is_some, arith}
use Rattle.std.specs.Prelude.{codes}
use Rattle.std.proofs.lemmas.Bool.{false≢true}
use Rattle.grammar.specs.Words.Sign.{names, opens, closes, suffix, separator}
use Rattle.grammar.specs.Words.Join.{next}
use Rattle.grammar.specs.Words.Mark.{optional}
use Rattle.grammar.specs.Notations.Notation.{dtd}
use Rattle.grammar.specs.Declarations.{Sign}
use Rattle.grammar.specs.Declarations.Sign.{element, declared, empty_word, any_word, inner, ends}
use Rattle.grammar.specs.Faults.{Gives, AllFaultless, Faultless}
use Rattle.grammar.specs.Faults.Cause.{kind, again, beyond}
use Rattle.grammar.specs.Machine.{}
use Rattle.grammar.specs.Machine.Spot.{outside, opened, titled}
use Rattle.grammar.specs.Machine.Phase.{at}
use Rattle.grammar.specs.Tried.{one, void, Shown}
use Rattle.grammar.proofs.Gives.{gives_all, gives_kind, gives_sign}
use Rattle.grammar.proofs.Whole.{all_judged, short_name, few_parts}

element_fits : (ss : List Sign) → Rattle.grammar.specs.Faults.begun dtd ss < 32 → Faultless dtd [] ss element
element_fits ss h = (λ x. x, λ x. absurd (omega arith))

void_faultless : AllFaultless dtd [] (element ∷ declared (codes "a") ∷ empty_word ∷ ends ∷ [])
void_faultless = all_judged [] _ (
  element_fits [] (omega arith),
  (
    (false≢true, short_name [] (element ∷ []) (codes "a") (omega arith) (omega arith)),
    (
      (λ x. x, λ x. x),
      ((λ x. x, few_parts (element ∷ declared (codes "a") ∷ empty_word ∷ ends ∷ []) [] void refl (omega arith)), tt),
    ),
  ),
)

title_faultless : AllFaultless dtd [] (element ∷ declared (codes "a") ∷ [])
title_faultless = all_judged [] _ (
  element_fits [] (omega arith),
  ((false≢true, short_name [] (element ∷ []) (codes "a") (omega arith) (omega arith)), tt),
)

shown_any : Gives dtd [] (codes "<!ELEMENT a ANYx>") [] (Some (again, 12))
shown_any =
    (gives_sign [] (codes "<!ELEMENT a ANYx>") 12 (element ∷ declared (codes "a") ∷ []) any_word (at (titled [] (codes "a")) true)
    (at (titled [] (codes "a")) true, titled [] (codes "a"), true, codes "x>", omega arith, refl, (refl, refl), refl, refl, refl, tt, refl, tt) refl title_faultless).0 tt

shown_repeat : Gives dtd [] (codes "<!ELEMENT a EMPTY><!ELEMENT a") (void ∷ []) (Some (again, 28))
shown_repeat =
    (gives_sign [] (codes "<!ELEMENT a EMPTY><!ELEMENT a") 28 (element ∷ declared (codes "a") ∷ empty_word ∷ ends ∷ element ∷ []) (declared (codes "a")) (at (opened (void ∷ [])) true)
    (at (opened (void ∷ [])) true, opened (void ∷ []), true, [], omega arith, refl, (refl, refl), refl, refl, refl, (refl, tt), refl, tt) refl
    (all_judged [] _ (
      element_fits [] (omega arith),
      (
        (false≢true, short_name [] (element ∷ []) (codes "a") (omega arith) (omega arith)),
        (
          (λ x. x, λ x. x),
          (
            (λ x. x, few_parts (element ∷ declared (codes "a") ∷ empty_word ∷ ends ∷ []) [] void refl (omega arith)),
            (element_fits (element ∷ declared (codes "a") ∷ empty_word ∷ ends ∷ []) (omega arith), tt),
          ),
        ),
      ),
    ))).0 refl

shown_kind : Gives dtd [] (codes "<!ELEMENT a EMPTY>x") (void ∷ []) (Some (kind, 18))
shown_kind =
    gives_kind [] (codes "<!ELEMENT a EMPTY>x") 18 (at (outside (void ∷ [])) false)
    (λ ds a. false≢true (ap is_some a.1)) (omega arith, refl, λ less. refl) refl void_faultless

shown_long : Gives dtd [] (codes "<!ELEMENT nnnnnnnnnnnnnnnnnnnnnnnnnnnnnnnnn EMPTY>") [] (Some (beyond, 10))
shown_long =
    (gives_sign [] (codes "<!ELEMENT nnnnnnnnnnnnnnnnnnnnnnnnnnnnnnnnn EMPTY>") 10 (element ∷ []) (declared (codes "nnnnnnnnnnnnnnnnnnnnnnnnnnnnnnnnn")) (at (opened []) true) (
      at (opened []) true,
      opened [],
      true,
      codes " EMPTY>",
      omega arith,
      refl,
      (refl, refl),
      refl,
      refl,
      refl,
      (refl, (refl, (refl, (refl, (refl, (refl, (refl, (refl, (refl, (refl, (refl, (refl, (refl, (refl, (refl, (refl, (refl, (refl, (refl, (refl, (refl, (refl, (refl, (refl, (refl, (refl, (refl, (refl, (refl, (refl, (refl, (refl, (refl, tt))))))))))))))))))))))))))))))))),
      refl,
      refl,
    ) refl (all_judged [] _ (element_fits [] (omega arith), tt))).1 false≢true (inl (omega arith))

shown_one : Gives dtd [] (codes "<!ELEMENT a ( b,c?)>") (one ∷ []) None
shown_one = gives_all [] (codes "<!ELEMENT a ( b,c?)>") (one ∷ []) (false, refl) (all_judged [] _ (
  element_fits [] (omega arith),
  (
    (false≢true, short_name [] (element ∷ []) (codes "a") (omega arith) (omega arith)),
    (
      (λ x. x, λ x. absurd (omega arith)),
      (
        (λ x. x, short_name [] (element ∷ declared (codes "a") ∷ inner opens ∷ []) (codes "b") (omega arith) (omega arith)),
        (
          (λ x. x, λ x. x),
          (
            (λ x. x, short_name [] (element ∷ declared (codes "a") ∷ inner opens ∷ inner (names (codes "b")) ∷ inner (separator next) ∷ []) (codes "c") (omega arith) (omega arith)),
            (
              (λ x. x, λ x. x),
              (
                (λ x. x, λ x. x),
                ((λ x. x, few_parts (element ∷ declared (codes "a") ∷ inner opens ∷ inner (names (codes "b")) ∷ inner (separator next) ∷ inner (names (codes "c")) ∷ inner (suffix optional) ∷ inner closes ∷ ends ∷ []) [] one refl (omega arith)), tt),
              ),
            ),
          ),
        ),
      ),
    ),
  ),
))

pub shown : Shown
shown = (shown_one, refl, shown_any, shown_repeat, shown_kind, shown_long)
