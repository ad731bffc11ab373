-- How far reading has come, step by step: what private contracts and proofs of readers rest on. Assumes nothing.
use Rattle.std.specs.Prelude.{◌≡◌, ℕ, ◌+◌, ◌<◌, ◌≤◌, Bool, true, false, ◌==◌, List, [], ◌∷◌, ◌++◌, length, take, drop, codes, Some, None, Option}
use Rattle.grammar.specs.Bytes.{is_char, IsSomeSpace, Bit, AreBits, bits, comment, NameEnds}
use Rattle.grammar.specs.Notations.Notation.{dtd}
use Rattle.grammar.specs.Declarations.{Declaration, Sign, all_signs, sign_bytes, IsText}
use Rattle.grammar.specs.Faults.{EndsWell, Repeats, Beyond, Cause, Gives, Faultless, AllFaultless}
use Rattle.grammar.specs.Faults.Cause.{kind, again, beyond}
use Rattle.grammar.specs.Machine.{Spot, go, spelled, tight, Fixed, word_before, word_sign, Phase, refused, feed_at, feeds, first, SignFits, Stands, is_outside, spot_read}
use Rattle.grammar.specs.Machine.Spot.{outside}
use Rattle.grammar.specs.Machine.Phase.{naming}

-- a name that was read is whole
abbrev pub Ends : Phase → List ℕ → Type 0
Ends (naming a n) rest = NameEnds rest
Ends φ rest = Unit {0}

-- reading stands at the spot σ at the place k, behind the last sign with white space or without, and no sign so far was at fault
pub record StandsAt (ks : List (List ℕ)) (bytes : List ℕ) (k : ℕ) (σ : Spot) (h : Bool) : Type 0 where
  pub phase : Phase
  pub within : k ≤ length bytes
  pub fed : feeds (take k bytes) first ≡ Some phase
  pub stands : Stands phase σ h
  pub ends : Ends phase (drop k bytes)
  pub faultless : AllFaultless dtd ks (spelled σ)

-- it begins before all bytes
abbrev pub StandsFirst : Type 0
StandsFirst = (ks : List (List ℕ)) (bytes : List ℕ) → StandsAt ks bytes 0 (outside []) false

-- it goes on over white space, a comment and a sign
abbrev pub PassesSpace : Type 0
PassesSpace =
    (ks : List (List ℕ)) (bytes : List ℕ) (k : ℕ) (σ : Spot) (h : Bool) (gap rest : List ℕ) → StandsAt ks bytes k σ h → tight σ ≡ false → IsSomeSpace gap
    → drop k bytes ≡ gap ++ rest → StandsAt ks bytes (k + length gap) σ true

abbrev pub PassesComment : Type 0
PassesComment =
    (ks : List (List ℕ)) (bytes : List ℕ) (k : ℕ) (ds : List Declaration) (h : Bool) (us : List Bit) (rest : List ℕ) → StandsAt ks bytes k (outside ds) h
    → AreBits us → drop k bytes ≡ comment (bits us) ++ rest → StandsAt ks bytes (k + length (comment (bits us))) (outside ds) true

abbrev pub PassesSign : Type 0
PassesSign =
    (ks : List (List ℕ)) (bytes : List ℕ) (k : ℕ) (σ : Spot) (h : Bool) (s : Sign) (τ : Spot) (rest : List ℕ) → StandsAt ks bytes k σ h
    → refused h σ s ≡ false → go σ s ≡ Some τ → SignFits s → drop k bytes ≡ sign_bytes dtd s ++ rest → EndsWell s rest → Faultless dtd ks (spelled σ) s
    → StandsAt ks bytes (k + length (sign_bytes dtd s)) τ false

-- a sign that is at fault is the first fault
abbrev pub SignAtFault : Type 0
SignAtFault =
    (ks : List (List ℕ)) (bytes : List ℕ) (k : ℕ) (σ : Spot) (h : Bool) (s : Sign) (τ : Spot) (rest : List ℕ) → StandsAt ks bytes k σ h
    → refused h σ s ≡ false → go σ s ≡ Some τ → SignFits s → drop k bytes ≡ sign_bytes dtd s ++ rest → EndsWell s rest
    → (Repeats (spelled σ) s → Gives dtd ks bytes (spot_read σ) (Some (again, k)))
    × ((Repeats (spelled σ) s → ⊥) → Beyond dtd ks (spelled σ) s → Gives dtd ks bytes (spot_read σ) (Some (beyond, k)))

-- and so is a byte that no text has there, and the end where no text ends
abbrev pub StopsAtByte : Type 0
StopsAtByte =
    (ks : List (List ℕ)) (bytes : List ℕ) (k : ℕ) (σ : Spot) (h : Bool) (b : ℕ) (rest : List ℕ) → StandsAt ks bytes k σ h → drop k bytes ≡ b ∷ rest
    → feed_at σ h b ≡ None → Gives dtd ks bytes (spot_read σ) (Some (kind, k))

abbrev pub StopsAtEnd : Type 0
StopsAtEnd =
    (ks : List (List ℕ)) (bytes : List ℕ) (k : ℕ) (σ : Spot) (h : Bool) → StandsAt ks bytes k σ h → drop k bytes ≡ [] → is_outside σ ≡ false
    → Gives dtd ks bytes (spot_read σ) (Some (kind, k))

-- the next byte is not this one, or there is none
abbrev pub NotNext : ℕ → List ℕ → Type 0
NotNext c [] = Unit {0}
NotNext c (b ∷ rest) = (b == c) ≡ false

-- of a fixed word there is a part. Behind '<!' a comment may begin too: '-' is 45
abbrev pub StopsInWord : Type 0
StopsInWord =
    (ks : List (List ℕ)) (bytes : List ℕ) (k : ℕ) (σ : Spot) (h : Bool) (f : Fixed) (done : List ℕ) (c : ℕ) (left rest : List ℕ) → StandsAt ks bytes k σ h
    → word_before f ≡ σ → refused h σ (word_sign f) ≡ false → sign_bytes dtd (word_sign f) ≡ done ++ (c ∷ left) → 0 < length done
    → drop k bytes ≡ done ++ rest → NotNext c rest → (done ≡ codes "<!" → NotNext 45 rest)
    → Gives dtd ks bytes (spot_read σ) (Some (kind, k + length done))

-- '<!-' is no comment yet
abbrev pub StopsBeforeComment : Type 0
StopsBeforeComment =
    (ks : List (List ℕ)) (bytes : List ℕ) (k : ℕ) (ds : List Declaration) (h : Bool) (rest : List ℕ) → StandsAt ks bytes k (outside ds) h
    → drop k bytes ≡ codes "<!-" ++ rest → NotNext 45 rest → Gives dtd ks bytes ds (Some (kind, k + 3))

-- the next byte may not stand in a comment, or there is none
abbrev pub NoCharNext : List ℕ → Type 0
NoCharNext [] = Unit {0}
NoCharNext (b ∷ rest) = is_char b ≡ false

-- a comment does not end: behind what is in it; behind one '-' more; behind two, where only '>', 62, may stand
abbrev pub StopsInComment : Type 0
StopsInComment =
    (ks : List (List ℕ)) (bytes : List ℕ) (k : ℕ) (ds : List Declaration) (h : Bool) (us : List Bit) (rest : List ℕ) → StandsAt ks bytes k (outside ds) h
    → AreBits us
    → (drop k bytes ≡ codes "<!--" ++ (bits us ++ rest) → NoCharNext rest → Gives dtd ks bytes ds (Some (kind, k + 4 + length (bits us))))
    × (drop k bytes ≡ codes "<!--" ++ (bits us ++ (45 ∷ rest)) → NoCharNext rest → Gives dtd ks bytes ds (Some (kind, k + 5 + length (bits us))))
    × (drop k bytes ≡ codes "<!--" ++ (bits us ++ (45 ∷ 45 ∷ rest)) → NotNext 62 rest → Gives dtd ks bytes ds (Some (kind, k + 6 + length (bits us))))

-- at a text's end all was read
abbrev pub EndsWhole : Type 0
EndsWhole =
    (ks : List (List ℕ)) (bytes : List ℕ) (k : ℕ) (ds : List Declaration) (h : Bool) → StandsAt ks bytes k (outside ds) h → drop k bytes ≡ []
    → Gives dtd ks bytes ds None

-- between declarations: the text gives those that were read, and then maybe more
abbrev pub GivesMore : Type 0
GivesMore =
    (ks : List (List ℕ)) (bytes : List ℕ) (k : ℕ) (ds : List Declaration) (h : Bool) → StandsAt ks bytes k (outside ds) h
    → (more : List Declaration) × (end : Option (Cause × ℕ)) × Gives dtd ks bytes (ds ++ more) end

-- to stand between declarations is to have read a text of them without fault
abbrev pub StandsBetween : Type 0
StandsBetween =
    (ks : List (List ℕ)) (bytes : List ℕ) (k : ℕ) (ds : List Declaration)
    → ((h : Bool) → StandsAt ks bytes k (outside ds) h → IsText dtd (take k bytes) ds × AllFaultless dtd ks (all_signs ds))
    × (k ≤ length bytes → IsText dtd (take k bytes) ds → AllFaultless dtd ks (all_signs ds) → (h : Bool) × StandsAt ks bytes k (outside ds) h)
