-- A byte at the front of what is left of a text. Assumes nothing.
use Rattle.std.proofs.Common.{◌≡◌, ℕ, ◌<◌, ◌≤◌, List, [], ◌∷◌, false, ◌==◌, length, get_or, take, drop, ap, subst, arith}
use Rattle.std.proofs.lemmas.List.{length-take-le}
use Rattle.std.proofs.lemmas.Bool.Decides.{nat_tests}
use Rattle.text.specs.Fronts.{Past}
use Rattle.text.specs.Cursors.{rest_of, Moved}
use Rattle.text.specs.declared.cursor.Cursor.{Cursor}

begins_with : (text : List ℕ) (b : ℕ) → 1 ≤ length text → get_or text 0 0 ≡ b → text ≡ b ∷ drop 1 text
begins_with [] b some is = absurd (omega arith)
begins_with (c ∷ text) b some is = ap (λ x. x ∷ text) is

pub front_is : (c : Cursor) (rest : List ℕ) (b : ℕ) → rest ≡ rest_of c → 1 ≤ length rest → get_or rest 0 0 ≡ b → rest_of c ≡ b ∷ drop 1 (rest_of c)
front_is c rest b same some is = begins_with (rest_of c) b (subst (λ xs. 1 ≤ length xs) same some) (subst (λ xs. get_or xs 0 0 ≡ b) same is)

-- it is read
pub one_read : (old new : Cursor) (rest : List ℕ) (b : ℕ) → rest ≡ rest_of old → 1 ≤ length rest → get_or rest 0 0 ≡ b → Moved old (take 1 (rest_of old)) new
    → Moved old (b ∷ []) new
one_read old new rest b same some is m = subst (λ g. Moved old g new) (ap (take 1) (front_is old rest b same some is)) m

pub one_further : (old new : Cursor) → 1 ≤ length (rest_of old) → Moved old (take 1 (rest_of old)) new → (new.text.now ≡ old.text.now) × (old.at < new.at)
one_further old new some m = (m.same, omega (arith, m.at, length-take-le 1 (rest_of old) some))

-- another byte stands there, or none
pub none_there : (rest : List ℕ) (b : ℕ) → length rest < 1 → Past (λ x. x == b) rest
none_there [] b few = tt
none_there (c ∷ rest) b few = absurd (omega arith)

pub other_there : (rest : List ℕ) (b : ℕ) → (get_or rest 0 0 ≡ b → ⊥) → Past (λ x. x == b) rest
other_there [] b other = tt
other_there (c ∷ rest) b other = other_byte c b other
  where
    other_byte : (c b : ℕ) → (c ≡ b → ⊥) → (c == b) ≡ false
    other_byte c b other = grind (arith, nat_tests)
