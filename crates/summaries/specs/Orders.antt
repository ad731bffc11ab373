-- In which order two symbols stand in messages. Assumes nothing.
use Rattle.std.specs.Prelude.{ℕ, Decides}
use Rattle.models.specs.Messages.{Message, After}
use Rattle.models.specs.Trees.{Tree, Fits, Carries}
use Rattle.summaries.specs.declared.after.Order.{Order}

-- some message that fits has an a after a b
abbrev pub Reverses : Tree → ℕ → ℕ → Type 0
Reverses t a b = (m : Message) × Fits t m × After a b m

-- whether some message has an a after a b, beside whether some message has each
abbrev pub OrderIs : ℕ → ℕ → Tree → Order → Type 0
OrderIs a b t v = Decides v.after (Reverses t a b) × Decides v.first (Carries t a) × Decides v.second (Carries t b)
