-- A name within content is read, or the text stops there. Assumes nothing.
use Rattle.std.proofs.Common.{◌≡◌, ℕ, Bool, true, false, List, [], ◌∷◌, drop, Some, sym, refl, ap, ◌∙◌, subst}
use Rattle.std.specs.Prelude.{Ok}
use Rattle.grammar.specs.Bytes.{begins_name, IsName, NameEnds}
use Rattle.grammar.specs.Notations.Notation.{dtd}
use Rattle.grammar.specs.Words.Sign.{names}
use Rattle.grammar.specs.Declarations.Sign.{inner}
use Rattle.grammar.specs.Machine.{Spot, Named, name_before, name_after, go, spelled, refused, is_outside, spot_read}
use Rattle.grammar.specs.Machine.Named.{title, kid, mate}
use Rattle.grammar.proofs.Steps.{spelled_on}
use Rattle.text.specs.Cursors.{rest_of, Moved, Stayed}
use Rattle.text.specs.Declaring.{ReadTo, IsChildName, WantsName}
use Rattle.text.specs.Fronts.{Past}
use Rattle.text.specs.Progress.{ElementsAre, TakenIn, AtFaultBy, Fails}
use Rattle.text.specs.declared.cursor.Cursor.{Cursor}
use Rattle.text.specs.declared.elements.Elements.{Elements}
use Rattle.text.specs.declared.fault.TextCause.{TextCause}
use Rattle.text.specs.declared.fault.TextCause.TheVariants.{NotDeclarations}
use Rattle.text.proofs.Walking.{placed, stays_at, over_sign, sign_fails, Refuses, byte_fails}

within : (a : Named) → IsChildName a → is_outside (name_before a) ≡ false
within (title ds) h = absurd h
within (kid ds n o l) h = refl
within (mate ds n ns) h = refl

no_name : (σ : Spot) (h : Bool) (rest : List ℕ) → is_outside σ ≡ false → WantsName σ h rest → Past begins_name rest → Refuses σ h rest
no_name σ h [] out wants past = out
no_name σ h (b ∷ rest) out wants past = wants past

pub child_missing : (ks : List (List ℕ)) (bytes : List ℕ) (a : Named) (h : Bool) (old new : Cursor) (e : Elements) → IsChildName a
    → ReadTo ks bytes (name_before a) h old e → WantsName (name_before a) h (rest_of old) → Stayed old new → Past begins_name (rest_of new)
    → Fails dtd ks bytes (spot_read (name_before a)) (placed NotDeclarations new.at)
child_missing ks bytes a h old new e is r wants s past =
    byte_fails ks bytes (name_before a) h (rest_of new) new (stays_at ks bytes (name_before a) h old new r.cursor s) refl
    (no_name (name_before a) h (rest_of new) (within a is) (subst (WantsName (name_before a) h) (sym same) wants) past)
  where
    same : rest_of new ≡ rest_of old
    same = ap (λ k. drop k new.text.now) s.1 ∙ ap (drop old.at) s.0

goes_there : (a : Named) (m : List ℕ) → IsChildName a → go (name_before a) (inner (names m)) ≡ Some (name_after a m)
goes_there (title ds) m h = absurd h
goes_there (kid ds n o l) m h = refl
goes_there (mate ds n ns) m h = refl

may_stand : (a : Named) (h : Bool) (m : List ℕ) → IsChildName a → refused h (name_before a) (inner (names m)) ≡ false
may_stand (title ds) h m is = absurd is
may_stand (kid ds n o l) h m is = by h
  where
    by : (h : Bool) → refused h (name_before (kid ds n o l)) (inner (names m)) ≡ false
    by true = refl
    by false = refl
may_stand (mate ds n ns) h m is = by h
  where
    by : (h : Bool) → refused h (name_before (mate ds n ns)) (inner (names m)) ≡ false
    by true = refl
    by false = refl

pub child_read : (ks : List (List ℕ)) (bytes : List ℕ) (a : Named) (h : Bool) (m : List ℕ) (old new : Cursor) (e f : Elements) (s : ℕ) → IsChildName a
    → ReadTo ks bytes (name_before a) h old e → Moved old m new → IsName m → NameEnds (rest_of new)
    → TakenIn dtd ks (spelled (name_before a)) (inner (names m)) (Ok s) f → ReadTo ks bytes (name_after a m) false new f
child_read ks bytes a h m old new e f s is r moved name whole (one, taken) = record {
  cursor = over_sign ks bytes (name_before a) h (inner (names m)) (name_after a m) old new r.cursor (may_stand a h m is) (goes_there a m is) name moved whole one;
  elements =
      subst (λ ss. ElementsAre dtd ks ss f)
      (sym (spelled_on ks bytes old.at (name_before a) h (inner (names m)) (name_after a m) r.cursor.at (goes_there a m is))) taken;
}

pub child_fails : (ks : List (List ℕ)) (bytes : List ℕ) (a : Named) (h : Bool) (m : List ℕ) (old new : Cursor) (e : Elements) (cause : TextCause) → IsChildName a
    → ReadTo ks bytes (name_before a) h old e → Moved old m new → IsName m → NameEnds (rest_of new)
    → AtFaultBy dtd ks (spelled (name_before a)) (inner (names m)) cause → Fails dtd ks bytes (spot_read (name_before a)) (placed cause old.at)
child_fails ks bytes a h m old new e cause is r moved name whole bad =
    sign_fails ks bytes (name_before a) h (inner (names m)) (name_after a m) cause (rest_of new) old r.cursor (may_stand a h m is) (goes_there a m is) name
    moved.read whole bad
