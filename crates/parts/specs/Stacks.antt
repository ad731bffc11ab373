-- What a stack over a lent slice holds. Assumes nothing.
use Rattle.std.specs.Prelude.{◌≡◌, ℕ, ◌<◌, List, [], ◌∷◌, ◌++◌, reverse, length, take, Some, None, Ok, Err, Option, Result, slice_set}

-- the first n of xs, the last first
abbrev pub front : {X : Type 0} → List X → ℕ → List X
front xs n = reverse (take n xs)

-- what waits, the last pushed first, and what the slice holds behind that
pub record Kept (X : Type 0) : Type 0 where
  pub waiting : List X
  pub spare : List X

-- all that the slice holds: what waits stands at its front, the first pushed first
abbrev pub lent : {X : Type 0} → Kept X → List X
lent s = reverse s.waiting ++ s.spare

abbrev pub first_of : {X : Type 0} → List X → Option X
first_of [] = None
first_of (x ∷ xs) = Some x

-- how many values wait
abbrev pub depth : {X : Type 0} → Kept X → ℕ
depth s = length s.waiting

-- how many values can wait
abbrev pub room : {X : Type 0} → Kept X → ℕ
room s = length (lent s)

-- a push lets the value wait, or finds the stack full, changes nothing and hands the value back
abbrev pub Pushed : {X : Type 0} → Kept X → X → Result (Unit {0}) X → Kept X → Type 0
Pushed s v (Ok u) t = (t.waiting ≡ v ∷ s.waiting) × (lent t ≡ slice_set (lent s) (depth s) v)
Pushed s v (Err w) t = (w ≡ v) × (depth s ≡ room s) × (t ≡ s)

-- a pop takes the last value, or finds none and changes nothing
abbrev pub Popped : {X : Type 0} → Kept X → Option X → Kept X → Type 0
Popped s None t = (s.waiting ≡ []) × (t ≡ s)
Popped s (Some v) t = (s.waiting ≡ v ∷ t.waiting) × (lent t ≡ lent s)

-- the same for the last two, the earlier one first
abbrev pub PoppedTwo : {X : Type 0} → Kept X → Option (X × X) → Kept X → Type 0
PoppedTwo s None t = (depth s < 2) × (t ≡ s)
PoppedTwo s (Some (u, v)) t = (s.waiting ≡ v ∷ u ∷ t.waiting) × (lent t ≡ lent s)
