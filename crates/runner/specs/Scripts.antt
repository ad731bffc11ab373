-- What is written for a script, line after line. Assumes nothing.
use Rattle.std.specs.Prelude.{◌≡◌, ℕ, ◌⊎◌, List, [], ◌∷◌, ◌++◌, Some, None, Ok, Err, string_bytes, vec_items, codes, Option, Result}
use Rattle.std.specs.Char.{is_not_whitespace}
use Rattle.std.specs.Io.KnownBytes.{Appends}
use Rattle.std.specs.List.{join_by}
use Rattle.std.specs.Str.{NoCharPasses}
use Rattle.parts.specs.Refusals.{notice, refusal_said}
use Rattle.parts.specs.declared.refusal.Refusal.{Refusal}
use Rattle.set.specs.Histories.{Asked, Told, History}
use Rattle.set.specs.Histories.Asked.{declare, withdraw, issue, recall, compare, judge}
use Rattle.set.specs.Law.{Due}
use Rattle.seasons.specs.Texts.{told_said}
use Rattle.script.specs.Lines.{LineRead}
use Rattle.script.specs.Words.{Begins}
use Rattle.script.specs.declared.call.Call.{Call}
use Rattle.script.specs.declared.call.Call.TheVariants.{Table, Ask, Declare, Withdraw, Issue, Recall, Compare, Judge}
use Rattle.answers.specs.Answers.{CallAnswered}
use Rattle.answers.specs.Texts.{reply_said}
use Rattle.answers.specs.declared.reply.Reply.{Reply}
use Rattle.runner.specs.Entries.{BadAt}
use Rattle.runner.specs.declared.failure.Failure.{Failure}
use Rattle.runner.specs.declared.failure.Failure.TheVariants.{BadFile, BadInput, BadLine, Io}

-- the words of a line
abbrev pub WordsAre : List ℕ → List (List ℕ) → Type 0
WordsAre line ws = (rest : List ℕ) × Begins line ws rest × NoCharPasses is_not_whitespace rest

-- words with one space between two
abbrev pub spaced : List (List ℕ) → List ℕ
spaced ws = join_by (λ w. w) (codes " ") ws

-- what a call asks of the message set, if it asks of that
abbrev pub asked_of : Call → Option Asked
asked_of (Table parts) = None
asked_of (Ask question parts) = None
asked_of (Declare number parts) = Some (declare number (vec_items parts))
asked_of (Withdraw number) = Some (withdraw number)
asked_of Issue = Some issue
asked_of Recall = Some recall
asked_of (Compare sent expected) = Some (compare sent expected)
asked_of (Judge number message) = Some (judge number (vec_items message))

-- what is said of the answer to a call about a table
abbrev pub answer_said : Result Reply Refusal → List ℕ
answer_said (Ok reply) = reply_said reply
answer_said (Err refusal) = refusal_said (notice refusal)

-- what the set answers after the history h, over a sheet of 8,192 parts and with nothing hung
-- behind; the history goes on
abbrev pub SetSaid : History → Asked → List ℕ → History → Type 0
SetSaid h asked text h′ = (told : Told) × Due [] 8192 h asked told × (text ≡ told_said told) × (h′ ≡ record { asked = asked; told = told } ∷ h)

-- what is said of a table; the history stays
abbrev pub TableSaid : History → Call → List ℕ → History → Type 0
TableSaid h call text h′ = (answer : Result Reply Refusal) × CallAnswered call (Some answer) × (text ≡ answer_said answer) × (h′ ≡ h)

abbrev pub SaidBy : Option Asked → History → Call → List ℕ → History → Type 0
SaidBy None h call text h′ = TableSaid h call text h′
SaidBy (Some asked) h call text h′ = SetSaid h asked text h′

-- what goes to a call: the words of its line, a colon, the answer, and the end of the line, which is 10
abbrev pub CallSaid : History → List ℕ → Call → List ℕ → History → Type 0
CallSaid h line call said h′ =
    (ws : List (List ℕ)) × (text : List ℕ) × WordsAre line ws × SaidBy (asked_of call) h call text h′
    × (said ≡ spaced ws ++ (codes ": " ++ (text ++ (10 ∷ []))))

-- what goes to a line after the history h, and the history after it: nothing where it makes no call
abbrev pub LineSaid : History → List ℕ → List ℕ → History → Type 0
LineSaid h line said h′ =
    (LineRead line (Ok None) × (said ≡ []) × (h′ ≡ h))
    ⊎ ((call : Call) × LineRead line (Ok (Some call)) × CallSaid h line call said h′)

-- what goes to lines, one after another
abbrev pub Said : History → List (List ℕ) → List ℕ → History → Type 0
Said h [] said h′ = (said ≡ []) × (h′ ≡ h)
Said h (line ∷ lines) said h′ =
    (first : List ℕ) × (others : List ℕ) × (mid : History) × (said ≡ first ++ others) × LineSaid h line first mid × Said mid lines others h′

-- old grows to new by what goes to the lines of a season from blank on
abbrev pub Written : List (List ℕ) → Option (List ℕ) → Option (List ℕ) → Type 0
Written lines old new = (said : List ℕ) × (h : History) × Said [] lines said h × Appends old new said

-- the lines are all answered, or those before the first bad one are, which the failure numbers from 1
abbrev pub ScriptWritten : List (List ℕ) → Option (List ℕ) → Option (List ℕ) → Result (Unit {0}) Failure → Type 0
ScriptWritten lines old new (Ok u) = Written lines old new
ScriptWritten lines old new (Err (BadFile path error)) = ⊥
ScriptWritten lines old new (Err (BadInput error)) = ⊥
ScriptWritten lines old new (Err (BadLine number reason)) = (before : List (List ℕ)) × BadAt lines number (string_bytes reason) before × Written before old new
ScriptWritten lines old new (Err (Io error)) = Unit {0}
