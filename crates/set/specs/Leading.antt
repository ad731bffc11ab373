-- Which histories lead to a set, and that a call leads on. Assumes nothing.
use Rattle.std.specs.Prelude.{◌≡◌, ℕ, suc, ◌-◌, ◌<◌, List, [], ◌∷◌, length, slice_set, Some, None, Ok, Err, Option, Result, ◌≢◌}
use Rattle.parts.specs.declared.part.Part.{Part}
use Rattle.parts.specs.declared.refusal.Refusal.{Refusal}
use Rattle.rules.specs.Rules.{Rule}
use Rattle.store.specs.Windows.{window, padded, written, model_at}
use Rattle.store.specs.declared.slot.Slot.{Slot}
use Rattle.set.specs.declared.state.State.{State}
use Rattle.set.specs.Histories.{Asked, Told, History, stands, state}
use Rattle.set.specs.Law.{Only, Due}

-- what the window of a number holds: the model that stands, followed by blank parts
abbrev pub shown : Option (List Part) → List Part
shown None = padded []
shown (Some ps) = padded ps

-- the sheet holds exactly the models that stand after h, each followed by blank parts; one that has not 8,192 parts is as it was first
pub record Shows (first : List Part) (h : History) (sheet : List Part) : Type 0 where
  pub size : length sheet ≡ length first
  pub windows : length first ≡ 8192 → (k : ℕ) → k < 32 → window k sheet ≡ shown (stands h (suc k))
  pub unaltered : length first ≢ 8192 → sheet ≡ first

-- the history h leads to the set with this sheet and these slots, in the state s, from blank over a sheet that was `first`
pub record Leads (first : List Part) (h : History) (s : State) (sheet : List Part) (slots : List Slot) : Type 0 where
  pub state_is : state h ≡ s
  pub models : (m : ℕ) → model_at sheet slots m ≡ stands h m
  pub shows : Shows first h sheet

-- whatever led to the set before the call, the answer is the only one that is due, and with it the history leads to the set after the call
abbrev pub Steps : List Rule → Asked → Told → State → List Part → List Slot → State → List Part → List Slot → Type 0
Steps behind asked told s sheet slots s′ sheet′ slots′ =
    (first : List Part) (h : History) → Leads first h s sheet slots
    → Only (Due behind (length first) h asked) told × Leads first (record { asked = asked; told = told } ∷ h) s′ sheet′ slots′

-- what a granted call leaves in the window and the slot of the number m; a refused one leaves all as it was
abbrev pub Leaves : ℕ → List Part → Slot → Result (Unit {0}) Refusal → List Part → List Slot → List Part → List Slot → Type 0
Leaves m ps slot (Ok u) sheet slots sheet′ slots′ = (sheet′ ≡ written sheet (m - 1) ps) × (slots′ ≡ slice_set slots (m - 1) slot)
Leaves m ps slot (Err r) sheet slots sheet′ slots′ = (sheet′ ≡ sheet) × (slots′ ≡ slots)
