-- A cursor goes on over white space and signs, and what the text gives where it stops. Assumes nothing.
use Rattle.std.proofs.Common.{◌≡◌, ℕ, ◌+◌, ◌<◌, inl, inr, Bool, true, false, cond, List, [], ◌∷◌, ◌++◌, length, drop, Some, None, sym, refl, ap, ◌∙◌, subst}
use Rattle.grammar.specs.Notations.Notation.{dtd}
use Rattle.grammar.specs.Declarations.{Sign, sign_bytes}
use Rattle.grammar.specs.Faults.{EndsWell, SignStands, Gives, Repeats, Beyond, Faultless}
use Rattle.grammar.specs.Faults.Cause.{again, beyond}
use Rattle.grammar.specs.Machine.{Spot, SignFits, go, spelled, tight, refused, feed_at, is_outside, spot_read, Fixed, word_before, word_sign}
use Rattle.grammar.specs.Progress.{StandsAt, NotNext}
use Rattle.grammar.proofs.Steps.{passes_space, passes_sign, sign_at_fault, sign_stands, stops_at_byte, stops_at_end, stops_in_word}
use Rattle.text.specs.Causes.{cause_of}
use Rattle.text.specs.Cursors.{rest_of, Moved, Stayed, BlanksRead}
use Rattle.text.specs.Fronts.{Differs}
use Rattle.text.specs.Progress.{CursorAt, Fails, AtFaultBy}
use Rattle.text.specs.declared.cursor.Cursor.{Cursor}
use Rattle.text.specs.declared.fault.TextCause.{TextCause}
use Rattle.text.specs.declared.fault.TextCause.TheVariants.{NotDeclarations, AnyContent, DeclaredAgain, LongName, TooManyNames, TooManyDeclarations, TooDeep, TooManyParts}
use Rattle.text.specs.declared.fault.PlacedCause.{PlacedCause}

abbrev pub placed : TextCause → ℕ → PlacedCause
placed cause k = record { cause = cause; place = k }

-- the rest of a cursor is that of the text
pub rest_is : (ks : List (List ℕ)) (bytes : List ℕ) (σ : Spot) (h : Bool) (c : Cursor) → CursorAt ks bytes σ h c → drop c.at bytes ≡ rest_of c
rest_is ks bytes σ h c r = ap (drop c.at) (sym r.text)

pub stays_at : (ks : List (List ℕ)) (bytes : List ℕ) (σ : Spot) (h : Bool) (old new : Cursor) → CursorAt ks bytes σ h old → Stayed old new → CursorAt ks bytes σ h new
stays_at ks bytes σ h old new r s = record { text = s.0 ∙ r.text; at = subst (λ k. StandsAt ks bytes k σ h) (sym s.1) r.at }

-- over white space, or none
pub over_blanks : (ks : List (List ℕ)) (bytes : List ℕ) (σ : Spot) (h b : Bool) (old new : Cursor) → CursorAt ks bytes σ h old → tight σ ≡ false → BlanksRead old b new
    → CursorAt ks bytes σ (cond b true h) new
over_blanks ks bytes σ h true old new r t ((g, is, m), past) = record {
  text = m.same ∙ r.text;
  at = subst (λ k. StandsAt ks bytes k σ true) (sym m.at) (passes_space ks bytes old.at σ h g (rest_of new) r.at t is (rest_is ks bytes σ h old r ∙ m.read));
}
over_blanks ks bytes σ h false old new r t (s, past) = stays_at ks bytes σ h old new r s

-- over a sign
pub over_sign : (ks : List (List ℕ)) (bytes : List ℕ) (σ : Spot) (h : Bool) (s : Sign) (τ : Spot) (old new : Cursor) → CursorAt ks bytes σ h old
    → refused h σ s ≡ false → go σ s ≡ Some τ → SignFits s → Moved old (sign_bytes dtd s) new → EndsWell s (rest_of new) → Faultless dtd ks (spelled σ) s
    → CursorAt ks bytes τ false new
over_sign ks bytes σ h s τ old new r may e fit m well one = record {
  text = m.same ∙ r.text;
  at =
      subst (λ k. StandsAt ks bytes k τ false) (sym m.at)
      (passes_sign ks bytes old.at σ h s τ (rest_of new) r.at may e fit (rest_is ks bytes σ h old r ∙ m.read) well one);
}

-- a sign that is at fault
pub sign_fails : (ks : List (List ℕ)) (bytes : List ℕ) (σ : Spot) (h : Bool) (s : Sign) (τ : Spot) (cause : TextCause) (rest : List ℕ) (c : Cursor) → CursorAt ks bytes σ h c
    → refused h σ s ≡ false → go σ s ≡ Some τ → SignFits s → rest_of c ≡ sign_bytes dtd s ++ rest → EndsWell s rest → AtFaultBy dtd ks (spelled σ) s cause
    → Fails dtd ks bytes (spot_read σ) (placed cause c.at)
sign_fails ks bytes σ h s τ cause rest c r may e fit m well bad = (by cause bad, inr (spelled σ, s, stands, bad.0))
  where
    read : drop c.at bytes ≡ sign_bytes dtd s ++ rest
    read = rest_is ks bytes σ h c r ∙ m

    stands : SignStands dtd bytes c.at (spelled σ) s
    stands = sign_stands ks bytes c.at σ h s τ rest r.at may e fit read well

    told : (Repeats (spelled σ) s → Gives dtd ks bytes (spot_read σ) (Some (again, c.at)))
        × ((Repeats (spelled σ) s → ⊥) → Beyond dtd ks (spelled σ) s → Gives dtd ks bytes (spot_read σ) (Some (beyond, c.at)))
    told = sign_at_fault ks bytes c.at σ h s τ rest r.at may e fit read well

    by : (cause : TextCause) → AtFaultBy dtd ks (spelled σ) s cause → Gives dtd ks bytes (spot_read σ) (Some (cause_of cause, c.at))
    by NotDeclarations x = absurd x.0
    by AnyContent x = told.0 x.1
    by DeclaredAgain x = told.0 x.1
    by LongName x = told.1 x.1.0 x.1.1
    by TooManyNames x = told.1 x.1.0 x.1.1
    by TooManyDeclarations x = told.1 x.1.0 x.1.1
    by TooDeep x = told.1 x.1.0 x.1.1
    by TooManyParts x = told.1 x.1.0 x.1.1

-- the next byte is refused, or the text ends too early
abbrev pub Refuses : Spot → Bool → List ℕ → Type 0
Refuses σ h [] = is_outside σ ≡ false
Refuses σ h (b ∷ rest) = feed_at σ h b ≡ None

pub byte_fails : (ks : List (List ℕ)) (bytes : List ℕ) (σ : Spot) (h : Bool) (rest : List ℕ) (c : Cursor) → CursorAt ks bytes σ h c → rest_of c ≡ rest → Refuses σ h rest
    → Fails dtd ks bytes (spot_read σ) (placed NotDeclarations c.at)
byte_fails ks bytes σ h [] c r e stop = (stops_at_end ks bytes c.at σ h r.at (rest_is ks bytes σ h c r ∙ e) stop, inl refl)
byte_fails ks bytes σ h (b ∷ rest) c r e stop = (stops_at_byte ks bytes c.at σ h b rest r.at (rest_is ks bytes σ h c r ∙ e) stop, inl refl)

-- a fixed word that is not whole
not_next : (c : ℕ) (left rest : List ℕ) → Differs (c ∷ left) rest → NotNext c rest
not_next c left [] d = tt
not_next c left (b ∷ rest) d = d

pub word_fails : (ks : List (List ℕ)) (bytes : List ℕ) (σ : Spot) (h : Bool) (f : Fixed) (done left rest : List ℕ) (c : Cursor) → CursorAt ks bytes σ h c
    → word_before f ≡ σ → refused h σ (word_sign f) ≡ false → sign_bytes dtd (word_sign f) ≡ done ++ left → 0 < length done → rest_of c ≡ done ++ rest → Differs left rest
    → (done ≡ 60 ∷ 33 ∷ [] → NotNext 45 rest) → Fails dtd ks bytes (spot_read σ) (placed NotDeclarations (c.at + length done))
word_fails ks bytes σ h f done [] rest c r is may w some e d other = absurd d
word_fails ks bytes σ h f done (b ∷ left) rest c r is may w some e d other =
    (stops_in_word ks bytes c.at σ h f done b left rest r.at is may w some (rest_is ks bytes σ h c r ∙ e) (not_next b left rest d) other, inl refl)
