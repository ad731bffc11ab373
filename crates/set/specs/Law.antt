-- The law of a message set: what each call is answered after a history. Assumes nothing.
use Rattle.std.specs.Prelude.{◌≡◌, ℕ, zero, suc, ◌<◌, ◌⊎◌, List, [], ◌∷◌, ◌++◌, Some, None, Ok, Option}
use Rattle.parts.specs.Refusals.{Notice}
use Rattle.parts.specs.declared.part.Part.{Part}
use Rattle.models.specs.Messages.{Message}
use Rattle.models.specs.Sheets.{table_answer}
use Rattle.models.specs.Trees.{Tree, Fits}
use Rattle.rules.specs.Rules.{Rule, Breaks, SomeBreaks, FirstIs}
use Rattle.rules.specs.declared.verdict.Verdict.{Verdict}
use Rattle.set.specs.Exact.{Included}
use Rattle.set.specs.Five.{five}
use Rattle.set.specs.declared.state.State.{State}
use Rattle.set.specs.Histories.{Asked, Told, History, named, stands, state}
use Rattle.set.specs.declared.state.State.TheVariants.{DrawnUp, Issued}
use Rattle.set.specs.Histories.Asked.{declare, withdraw, issue, recall, compare, judge}
use Rattle.set.specs.Histories.Told.{granted, included, fits, refused, not_taken}
use Rattle.set.specs.Questions.{first_no, number_question, free_question, table_question, declared_question, conflict_question, length_question, symbols_question}

-- the refusal of the first question that gets a no, or else what is said
abbrev pub Ends : Option Notice → (Told → Type 0) → Told → Type 0
Ends (Some n) Says told = told ≡ refused n
Ends None Says told = Says told

abbrev pub Granted : Told → Type 0
Granted told = told ≡ granted

-- the answer is as is said, and no other answer is
abbrev pub Only : (Told → Type 0) → Told → Type 0
Only Says told = Says told × ((other : Told) → Says other → other ≡ told)

-- the parts that stand are those of a model, whose tree is t
abbrev pub ModelIs : Option (List Part) → Tree → Type 0
ModelIs was t = (ps : List Part) × (was ≡ Some ps) × (table_answer ps ≡ Ok t)

-- Q holds of the rule at place k of a list
abbrev pub RuleAt : (Rule → Type 0) → List Rule → ℕ → Type 0
RuleAt Q [] k = ⊥
RuleAt Q (rule ∷ rules) zero = Q rule
RuleAt Q (rule ∷ rules) (suc k) = RuleAt Q rules k

-- the rule that is named is one of the list, P holds of it and of none placed before it; where none is named, P holds of none
abbrev pub NamedFirst : (Rule → Type 0) → List Rule → Option Verdict → Type 0
NamedFirst P rules None = (k : ℕ) → RuleAt P rules k → ⊥
NamedFirst P rules (Some v) = (k : ℕ) × RuleAt (λ rule. P rule × (rule.verdict ≡ v)) rules k × ((j : ℕ) → j < k → RuleAt P rules j → ⊥)

-- the message does not fit the model, or it breaks one of the rules hung behind
abbrev pub Fails : Tree → List Rule → Message → Type 0
Fails t [] m = Fits t m → ⊥
Fails t (rule ∷ rules) m = Fails t rules m ⊎ Breaks m rule

-- some message fits the sent model, and does not fit the expected one or breaks a rule hung behind
abbrev pub SomeFails : Tree → Tree → List Rule → Type 0
SomeFails sent expected behind = (m : Message) × Fits sent m × Fails expected behind m

-- a rule is named exactly where that is so; where none is, each message of the sent model fits the expected one
abbrev pub NamesExactly : Tree → Tree → List Rule → Option Verdict → Type 0
NamesExactly sent expected behind None = (SomeFails sent expected behind → ⊥) × Included sent expected
NamesExactly sent expected behind (Some v) = SomeFails sent expected behind

-- none is named exactly where the message fits
abbrev pub PassesExactly : Tree → Message → Option Verdict → Type 0
PassesExactly t m None = Fits t m
PassesExactly t m (Some v) = Fits t m → ⊥

-- compare: of the five families' rules of the expected model, and then of those hung behind, the first that some message of the sent model breaks
abbrev pub ComparedTo : Tree → Tree → List Rule → Told → Type 0
ComparedTo sent expected behind told =
    (v : Option Verdict) × (told ≡ named included v) × FirstIs (SomeBreaks sent) (five expected ++ behind) v
    × NamedFirst (SomeBreaks sent) (five expected ++ behind) v × NamesExactly sent expected behind v

-- judge: of the five families' rules of the model, the first that the message breaks
abbrev pub JudgedBy : Tree → Message → Told → Type 0
JudgedBy t m told =
    (v : Option Verdict) × (told ≡ named fits v) × FirstIs (Breaks m) (five t) v × NamedFirst (Breaks m) (five t) v × PassesExactly t m v

-- what the calls end with on a sheet of n parts, by what stands at the numbers that they are given
abbrev pub DeclareEnds : ℕ → Option (List Part) → ℕ → List Part → Told → Type 0
DeclareEnds n was m ps = Ends (first_no (number_question n m ∷ free_question was m ∷ table_question ps ∷ [])) Granted

abbrev pub WithdrawEnds : ℕ → Option (List Part) → ℕ → Told → Type 0
WithdrawEnds n was m = Ends (first_no (number_question n m ∷ declared_question was m ∷ [])) Granted

-- the questions of compare and of judge
abbrev pub compare_asked : ℕ → Option (List Part) → Option (List Part) → ℕ → ℕ → Option Notice
compare_asked n sent expected s e =
    first_no (number_question n s ∷ number_question n e ∷ declared_question sent s ∷ declared_question expected e ∷ conflict_question expected ∷ [])

abbrev pub judge_asked : ℕ → Option (List Part) → ℕ → Message → Option Notice
judge_asked n was m message =
    first_no (number_question n m ∷ declared_question was m ∷ conflict_question was ∷ length_question message ∷ symbols_question message ∷ [])

abbrev pub CompareEnds : List Rule → ℕ → Option (List Part) → Option (List Part) → ℕ → ℕ → Told → Type 0
CompareEnds behind n sent expected s e =
    Ends (compare_asked n sent expected s e) (λ told. (t : Tree) × (u : Tree) × ModelIs sent t × ModelIs expected u × ComparedTo t u behind told)

abbrev pub JudgeEnds : ℕ → Option (List Part) → ℕ → Message → Told → Type 0
JudgeEnds n was m message = Ends (judge_asked n was m message) (λ told. (t : Tree) × ModelIs was t × JudgedBy t message told)

-- a call that belongs to a set drawn up, or to an issued one, is not taken in the other state
abbrev pub InDrawnUp : State → (Told → Type 0) → Told → Type 0
InDrawnUp DrawnUp Says told = Says told
InDrawnUp Issued Says told = told ≡ not_taken Issued

abbrev pub InIssued : State → (Told → Type 0) → Told → Type 0
InIssued DrawnUp Says told = told ≡ not_taken DrawnUp
InIssued Issued Says told = Says told

-- what a call is answered after the history h on a sheet of n parts, with these rules hung behind where it is a compare
abbrev pub Due : List Rule → ℕ → History → Asked → Told → Type 0
Due behind n h (declare m ps) = InDrawnUp (state h) (DeclareEnds n (stands h m) m ps)
Due behind n h (withdraw m) = InDrawnUp (state h) (WithdrawEnds n (stands h m) m)
Due behind n h issue = InDrawnUp (state h) Granted
Due behind n h recall = InIssued (state h) Granted
Due behind n h (compare s e) = InIssued (state h) (CompareEnds behind n (stands h s) (stands h e) s e)
Due behind n h (judge m message) = InIssued (state h) (JudgeEnds n (stands h m) m message)
