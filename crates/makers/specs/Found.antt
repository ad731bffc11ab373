-- What is found out on the way to a board's answer. Assumes nothing.
use Rattle.std.specs.Prelude.{◌≡◌, ℕ, ◌<◌, ◌≤◌, Some, None, Option}
use Rattle.parts.specs.Sets.{In}
use Rattle.models.specs.Messages.{Message, Occurs}
use Rattle.rules.specs.declared.verdict.Verdict.{Verdict}
use Rattle.makers.specs.Boards.{unshown}

-- the set has the symbols of the message up to 63, and no others
unfoldable pub SymbolsMet : Message → ℕ → Type 0
SymbolsMet m set = (s : ℕ) → (In set s → Occurs s m) × (s ≤ 63 → Occurs s m → In set s)

-- the verdict about the smallest symbol of the set that is not shown, if there is one
unfoldable pub FirstUnshown : ℕ → ℕ → Option Verdict → Type 0
FirstUnshown shown set None = (s : ℕ) → In set s → In shown s
FirstUnshown shown set (Some v) = (s : ℕ) × (v ≡ (unshown s).verdict) × In set s × (In shown s → ⊥) × ((i : ℕ) → i < s → In set i → In shown i)
