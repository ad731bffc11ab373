-- The law of a whole season: a list of calls of one set from blank on, what each is answered, and what the sheet holds. Assumes nothing.
use Rattle.std.specs.Prelude.{◌≡◌, ℕ, zero, suc, ◌<◌, ◌≤◌, List, [], ◌∷◌, length, get_or, Some, None, Option}
use Rattle.parts.specs.declared.part.Part.{Part}
use Rattle.rules.specs.Rules.{Rule}
use Rattle.store.specs.declared.slot.Slot.{Slot}
use Rattle.set.specs.declared.state.State.{State}
use Rattle.set.specs.declared.state.State.TheVariants.{DrawnUp, Issued}
use Rattle.set.specs.Histories.{History}
use Rattle.set.specs.Law.{Due}
use Rattle.set.specs.Leading.{Leads, Steps}
use Rattle.seasons.specs.Calls.{asked, behind, told}
use Rattle.seasons.specs.declared.call.Call.{Call}
use Rattle.seasons.specs.declared.call.Call.TheVariants as call
use Rattle.seasons.specs.declared.answer.Answer.{Answer}
use Rattle.seasons.specs.declared.answer.Answer.TheVariants as answer

-- the call and the answer at place k, counted from 0; past the end of a list, an issue that is granted
abbrev pub call_at : {F : Type 0} → ℕ → List (Call F) → Call F
call_at k calls = get_or calls k call.Issue

abbrev pub answer_at : ℕ → List Answer → Answer
answer_at k answers = get_or answers k answer.Granted

-- the history of the first n calls with their answers
abbrev pub past : {F : Type 0} → ℕ → List (Call F) → List Answer → History
past zero calls answers = []
past (suc k) calls answers = record { asked = asked (call_at k calls); told = told (answer_at k answers) } ∷ past k calls answers

-- each of the first n calls is answered as is due after those before it, over a sheet of l parts
abbrev pub Lawful : {F : Type 0} → (F → List Rule) → ℕ → ℕ → List (Call F) → List Answer → Type 0
Lawful rules l n calls answers =
    (k : ℕ) → k < n → Due (behind rules (call_at k calls)) l (past k calls answers) (asked (call_at k calls)) (told (answer_at k answers))

-- each of the first n answers is the same
abbrev pub SameAnswers : ℕ → List Answer → List Answer → Type 0
SameAnswers n one two = (k : ℕ) → k < n → answer_at k one ≡ answer_at k two

-- the answers to the first n calls are lawful, and whatever others are lawful are the same
abbrev pub OnlyLawful : {F : Type 0} → (F → List Rule) → ℕ → ℕ → List (Call F) → List Answer → Type 0
OnlyLawful rules l n calls answers = Lawful rules l n calls answers × ((other : List Answer) → Lawful rules l n calls other → SameAnswers n other answers)

-- so the law leaves no answer open, however many calls are run
abbrev pub AnswersFixed : {F : Type 0} → (F → List Rule) → ℕ → List (Call F) → Type 0
AnswersFixed rules l calls = (n : ℕ) (answers : List Answer) → Lawful rules l n calls answers → OnlyLawful rules l n calls answers

-- the first n calls led to the set with this sheet and these slots, in the state s, by lawful answers
pub record Runs {F : Type 0} (rules : F → List Rule) (first : List Part) (calls : List (Call F)) (answers : List Answer) (n : ℕ) (s : State) (sheet : List Part) (slots : List Slot) : Type 0 where
  pub lawful : Lawful rules (length first) n calls answers
  pub leads : Leads first (past n calls answers) s sheet slots

-- the answers from place n on are as they were
abbrev pub Beyond : ℕ → List Answer → List Answer → Type 0
Beyond n old new = (length new ≡ length old) × ((k : ℕ) → n ≤ k → answer_at k new ≡ answer_at k old)

-- a call was answered: the set goes on from the state s to the state s′
abbrev pub Answered : {F : Type 0} → (F → List Rule) → Call F → Answer → State → List Part → List Slot → State → List Part → List Slot → Type 0
Answered rules c a s sheet slots s′ sheet′ slots′ = Steps (behind rules c) (asked c) (told a) s sheet slots s′ sheet′ slots′

-- what comes of a call of a set that is drawn up: an answer, or it is the call that issues the set
abbrev pub DrawnCalled : {F : Type 0} → (F → List Rule) → Call F → Option Answer → List Part → List Slot → List Part → List Slot → Type 0
DrawnCalled rules c None sheet slots sheet′ slots′ = (c ≡ call.Issue) × (sheet′ ≡ sheet) × (slots′ ≡ slots)
DrawnCalled rules c (Some a) sheet slots sheet′ slots′ = Answered rules c a DrawnUp sheet slots DrawnUp sheet′ slots′

-- what comes of a call of an issued set: an answer, or it is the call that recalls the set
abbrev pub IssuedCalled : {F : Type 0} → (F → List Rule) → Call F → Option Answer → List Part → List Slot → Type 0
IssuedCalled rules c None sheet slots = c ≡ call.Recall
IssuedCalled rules c (Some a) sheet slots = Answered rules c a Issued sheet slots Issued sheet slots
