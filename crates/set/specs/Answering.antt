-- What the questions of compare and judge give: the models that they ask for, or a refusal. Assumes nothing.
use Rattle.std.specs.Prelude.{◌≡◌, ℕ, List, length, Some, None, Ok, Err, Result}
use Rattle.parts.specs.Refusals.{notice}
use Rattle.parts.specs.declared.part.Part.{Part}
use Rattle.parts.specs.declared.refusal.Refusal.{Refusal}
use Rattle.models.specs.Checked.{parts_of}
use Rattle.models.specs.Messages.{Message}
use Rattle.models.specs.declared.model.Model.{Model}
use Rattle.store.specs.Windows.{model_at}
use Rattle.store.specs.declared.slot.Slot.{Slot}
use Rattle.set.specs.Law.{compare_asked, judge_asked}
use Rattle.set.specs.declared.expected.Expected.{Expected}

-- the sent model and the expected one that are kept, where all questions of compare get a yes
abbrev pub PairAsked : List Part → List Slot → ℕ → ℕ → Result (Model × Expected) Refusal → Type 0
PairAsked sheet slots s e (Ok (sent, expected)) =
    (compare_asked (length sheet) (model_at sheet slots s) (model_at sheet slots e) s e ≡ None)
    × (model_at sheet slots s ≡ Some (parts_of sent)) × (model_at sheet slots e ≡ Some (parts_of expected.model))
PairAsked sheet slots s e (Err r) = compare_asked (length sheet) (model_at sheet slots s) (model_at sheet slots e) s e ≡ Some (notice r)

-- the model that is kept, where all questions of judge get a yes
abbrev pub JudgeAsked : List Part → List Slot → ℕ → Message → Result Expected Refusal → Type 0
JudgeAsked sheet slots m message (Ok expected) =
    (judge_asked (length sheet) (model_at sheet slots m) m message ≡ None) × (model_at sheet slots m ≡ Some (parts_of expected.model))
JudgeAsked sheet slots m message (Err r) = judge_asked (length sheet) (model_at sheet slots m) m message ≡ Some (notice r)
