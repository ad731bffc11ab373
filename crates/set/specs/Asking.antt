-- What is found out about one message, and of which symbols it has to have one. Assumes nothing.
use Rattle.std.specs.Prelude.{◌≡◌, ℕ, true, false, [], ◌∷◌, ◌++◌, length, Some, None, Ok, Err, Option, Result, bit_or}
use Rattle.parts.specs.Refusals.{notice}
use Rattle.parts.specs.Sets.{In, only}
use Rattle.parts.specs.declared.refusal.Refusal.{Refusal}
use Rattle.parts.specs.declared.symbols.SymbolSet.{SymbolSet}
use Rattle.models.specs.Messages.{Message, Occurs}
use Rattle.models.specs.Trees.{Tree}
use Rattle.set.specs.Holding.{symbols_in, takes_empty}
use Rattle.set.specs.Questions.{first_no, length_question, symbols_question}

-- the symbols of the message up to 63, as a set
abbrev pub met_in : Message → ℕ
met_in [] = 0
met_in (x ∷ m) = bit_or (only x) (met_in m)

-- each symbol of the message is in the set
abbrev pub AllIn : ℕ → Message → Type 0
AllIn set m = (s : ℕ) → Occurs s m → In set s

-- the place of the first symbol that is not in the set
abbrev pub FirstOutside : ℕ → Message → Option ℕ → Type 0
FirstOutside set m None = AllIn set m
FirstOutside set m (Some k) =
    (before : Message) × (s : ℕ) × (after : Message) × (m ≡ before ++ (s ∷ after)) × (length before ≡ k) × (In set s → ⊥) × AllIn set before

-- the place of the last a
abbrev pub LastAt : ℕ → Message → Option ℕ → Type 0
LastAt a m None = Occurs a m → ⊥
LastAt a m (Some k) =
    (before : Message) × (after : Message) × (m ≡ before ++ (a ∷ after)) × (length before ≡ k) × (Occurs a after → ⊥)

-- the model's symbols, where the empty message does not fit it
abbrev pub WantedIs : Tree → Option SymbolSet → Type 0
WantedIs t None = takes_empty t ≡ true
WantedIs t (Some set) = (takes_empty t ≡ false) × (set.bits ≡ symbols_in t)

-- the length of the message and its symbols are asked for, in this order
abbrev pub MessageAsked : Message → Result (Unit {0}) Refusal → Type 0
MessageAsked m (Ok u) = first_no (length_question m ∷ symbols_question m ∷ []) ≡ None
MessageAsked m (Err r) = first_no (length_question m ∷ symbols_question m ∷ []) ≡ Some (notice r)
