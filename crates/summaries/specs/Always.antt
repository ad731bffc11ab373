-- Whether all messages of some kind are as said, and the pair of a set. Assumes nothing.
use Rattle.std.specs.Prelude.{ℕ, Bool, true, false}
use Rattle.models.specs.Messages.{Message, HasOneOf}
use Rattle.models.specs.Trees.{Tree, Fits}
use Rattle.models.specs.Trees.Tree.{nonempty}

-- yes: every message of Q is of P; no: some message of Q is not
abbrev pub Always : Bool → (Message → Type 0) → (Message → Type 0) → Type 0
Always true Q P = (m : Message) → Q m → P m
Always false Q P = (m : Message) × Q m × (P m → ⊥)

-- the pair tells whether every message of the tree has a symbol of the set, and
-- whether every nonempty one has
abbrev pub EveryHas : ℕ → Tree → Bool × Bool → Type 0
EveryHas set t (every, nonempties) = Always every (Fits t) (HasOneOf set) × Always nonempties (Fits (nonempty t)) (HasOneOf set)
