-- What a figure says of a number, and the fewest and most occurrences of a symbol. Assumes nothing.
use Rattle.std.specs.Prelude.{◌≡◌, ℕ, ◌+◌, ◌≤◌, min, Bool, true, false, cond, Some, None, Option, nat_le}
use Rattle.parts.specs.Sets.{only}
use Rattle.models.specs.Messages.{Message, Occurs, occurrences}
use Rattle.models.specs.Trees.{Tree, Fits, Carries}
use Rattle.summaries.specs.Always.{EveryHas}
use Rattle.occurrences.specs.declared.figure.Figure.{Figure}
use Rattle.occurrences.specs.declared.figure.Figure.TheVariants.{Exactly, Above}
use Rattle.occurrences.specs.declared.figure.Most.{Most}
use Rattle.occurrences.specs.declared.figure.Most.TheVariants.{Ends, NoEnd}
use Rattle.occurrences.specs.declared.occurs.Occurring.{Occurring}

-- what is known of the number n: all up to 10,000, above that only that it is above
abbrev pub figure : ℕ → Figure
figure n = cond (nat_le n 10000) (Exactly n) Above

-- n is the fewest times that s occurs in a message that has it
abbrev pub IsFewest : ℕ → Tree → ℕ → Type 0
IsFewest s t n =
    ((m : Message) × Fits t m × Occurs s m × (occurrences s m ≡ n)) × ((m : Message) → Fits t m → Occurs s m → n ≤ occurrences s m)

-- the fewest of two sides put together, from the fewest of each: one that has s in
-- every message adds its own, and the other can go without
abbrev pub fewest_of_sides : Bool → Bool → ℕ → ℕ → ℕ
fewest_of_sides true true a b = a + b
fewest_of_sides true false a b = a
fewest_of_sides false true a b = b
fewest_of_sides false false a b = min a b

-- n is the most times that s occurs in a message
abbrev pub IsMost : ℕ → Tree → ℕ → Type 0
IsMost s t n = ((m : Message) × Fits t m × (occurrences s m ≡ n)) × ((m : Message) → Fits t m → occurrences s m ≤ n)

-- for every number there is a message that has s at least so many times
abbrev pub Endless : ℕ → Tree → Type 0
Endless s t = (n : ℕ) → (m : Message) × Fits t m × (n ≤ occurrences s m)

-- no fewest: no message has s
abbrev pub FewestIs : ℕ → Tree → Option Figure → Type 0
FewestIs s t None = Carries t s → ⊥
FewestIs s t (Some f) = (n : ℕ) × (f ≡ figure n) × IsFewest s t n

abbrev pub MostIs : ℕ → Tree → Most → Type 0
MostIs s t (Ends f) = (n : ℕ) × (f ≡ figure n) × IsMost s t n
MostIs s t NoEnd = Endless s t

-- the fewest and the most, beside the pair for the symbol
abbrev pub OccurringIs : ℕ → Tree → Occurring → Type 0
OccurringIs s t v = FewestIs s t v.fewest × MostIs s t v.most × EveryHas (only s) t v.every
