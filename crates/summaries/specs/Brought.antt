-- What symbols of one set bring with them. Assumes nothing.
use Rattle.std.specs.Prelude.{ℕ}
use Rattle.models.specs.Messages.{HasOneOf}
use Rattle.models.specs.Trees.{Tree, Fits}
use Rattle.summaries.specs.Always.{Always, EveryHas}
use Rattle.summaries.specs.declared.brings.Brought.{Brought}

-- whether every message with a symbol of the first set has one of the second,
-- beside the pair for the second
abbrev pub BroughtIs : ℕ → ℕ → Tree → Brought → Type 0
BroughtIs first second t v = Always v.brings (λ m. Fits t m × HasOneOf first m) (HasOneOf second) × EveryHas second t v.every
