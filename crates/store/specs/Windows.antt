-- A sheet that keeps models, one in each of its windows of 256 parts, and what its slots say. Assumes nothing.
use Rattle.std.specs.Prelude.{◌≡◌, ℕ, zero, suc, ◌+◌, ◌-◌, ◌*◌, Bool, true, false, ◌&&◌, List, ◌++◌, length, replicate, take, drop, get_or, Some, None, Ok, Err, Option, Result, ◌==◌, nat_le}
use Rattle.parts.specs.Parts.{blank}
use Rattle.parts.specs.Refusals.{notice, at_set}
use Rattle.parts.specs.declared.refusal.Refusal.{Refusal}
use Rattle.parts.specs.declared.part.Part.{Part}
use Rattle.models.specs.Sheets.{is_model}
use Rattle.store.specs.declared.slot.Slot.{Slot}
use Rattle.store.specs.declared.slot.Slot.TheVariants.{Free, Declared}

-- a sheet of n parts has windows, and m is the number of one: it has 8,192 parts, and m is 1 to 32
abbrev pub numbered : ℕ → ℕ → Bool
numbered n m = n == 8192 && (nat_le 1 m && nat_le m 32)

-- the window at place k
abbrev pub window : ℕ → List Part → List Part
window k sheet = take 256 (drop (256 * k) sheet)

-- what a window holds that keeps these parts: they, and blank parts after them
abbrev pub padded : List Part → List Part
padded ps = ps ++ replicate (256 - length ps) blank

-- the sheet with these parts in the window at place k
abbrev pub written : List Part → ℕ → List Part → List Part
written sheet k ps = take (256 * k) sheet ++ (padded ps ++ drop (256 * k + 256) sheet)

abbrev pub slot_at : ℕ → List Slot → Slot
slot_at k slots = get_or slots k Free

-- the parts of the model of a slot whose window begins the list, if it has one
abbrev pub model_in : Slot → List Part → Option (List Part)
model_in Free w = None
model_in (Declared n) w = Some (take n w)

-- those at the number m, whose window is at place m - 1
abbrev pub model_at : List Part → List Slot → ℕ → Option (List Part)
model_at sheet slots zero = None
model_at sheet slots (suc k) = model_in (slot_at k slots) (drop (256 * k) sheet)

-- a slot with a model says how many parts it has, which are checked, on a sheet of n parts that has windows
abbrev pub is_sound : ℕ → Slot → List Part → Bool
is_sound n Free w = true
is_sound n (Declared l) w = n == 8192 && (nat_le l 256 && is_model (take l w))

abbrev pub Sound : List Part → List Slot → Type 0
Sound sheet slots = (k : ℕ) → is_sound (length sheet) (slot_at k slots) (drop (256 * k) sheet) ≡ true

-- a number that is none of a sheet of n parts is refused 2, placed at it
abbrev pub Unnumbered : ℕ → ℕ → Refusal → Type 0
Unnumbered n m r = (numbered n m ≡ false) × (notice r ≡ at_set 2 m)

-- the place of the window of the number m, and of its slot
abbrev pub Placed : ℕ → ℕ → Result ℕ Refusal → Type 0
Placed n m (Ok k) = (numbered n m ≡ true) × (k + 1 ≡ m)
Placed n m (Err r) = Unnumbered n m r

-- the window of the number m holds these parts from now on; nothing is altered for a number that is none
abbrev pub WindowIs : ℕ → List Part → List Part → Result ℕ Refusal → List Part → Type 0
WindowIs m ps sheet (Ok k) sheet′ = (numbered (length sheet) m ≡ true) × (k + 1 ≡ m) × (sheet′ ≡ written sheet k ps)
WindowIs m ps sheet (Err r) sheet′ = Unnumbered (length sheet) m r × (sheet′ ≡ sheet)
