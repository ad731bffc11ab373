-- How a set keeps its models. Assumes nothing.
use Rattle.std.specs.Prelude.{◌≡◌, ℕ, ◌-◌, true, List, length, slice_set, Some, None, Ok, Err, Option, Result}
use Rattle.parts.specs.Refusals.{notice}
use Rattle.parts.specs.declared.part.Part.{Part}
use Rattle.parts.specs.declared.refusal.Refusal.{Refusal}
use Rattle.models.specs.Checked.{parts_of}
use Rattle.models.specs.declared.model.Model.{Model}
use Rattle.store.specs.Windows.{numbered, model_at, written, Unnumbered}
use Rattle.store.specs.declared.slot.Slot.{Slot}
use Rattle.set.specs.Questions.{sheet_question}

-- the sheet is as long as it has to be, or the refusal tells of its length
abbrev pub SheetChecked : List Part → Result (Unit {0}) Refusal → Type 0
SheetChecked sheet (Ok u) = sheet_question (length sheet) ≡ None
SheetChecked sheet (Err r) = sheet_question (length sheet) ≡ Some (notice r)

-- the model at the number m, if there is one
abbrev pub Found : List Part → List Slot → ℕ → Result (Option Model) Refusal → Type 0
Found sheet slots m (Ok None) = (numbered (length sheet) m ≡ true) × (model_at sheet slots m ≡ None)
Found sheet slots m (Ok (Some model)) = (numbered (length sheet) m ≡ true) × (model_at sheet slots m ≡ Some (parts_of model))
Found sheet slots m (Err r) = Unnumbered (length sheet) m r

-- these parts and this slot are kept at the number m from now on; nothing is altered at a number that is none
abbrev pub Kept : List Part → List Slot → ℕ → List Part → Slot → Result (Unit {0}) Refusal → List Part → List Slot → Type 0
Kept sheet slots m ps slot (Ok u) sheet′ slots′ =
    (numbered (length sheet) m ≡ true) × (sheet′ ≡ written sheet (m - 1) ps) × (slots′ ≡ slice_set slots (m - 1) slot)
Kept sheet slots m ps slot (Err r) sheet′ slots′ = Unnumbered (length sheet) m r × (sheet′ ≡ sheet) × (slots′ ≡ slots)
