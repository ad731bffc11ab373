-- What a call answers, by the definitions of the library. Assumes nothing.
use Rattle.std.specs.Prelude.{◌≡◌, Bool, List, [], length, IsSomeAnd, None, Ok, Err, vec_items, Decides, Option, Result}
use Rattle.models.specs.Conflicts.{first_conflict_of}
use Rattle.models.specs.Messages.{HasOneOf}
use Rattle.models.specs.Sheets.{table_answer}
use Rattle.models.specs.Trees.{Tree, Fits}
use Rattle.parts.specs.Refusals.{notice}
use Rattle.parts.specs.declared.refusal.Refusal.{Refusal}
use Rattle.parts.specs.declared.part.Part.{Part}
use Rattle.summaries.specs.Always.{Always, EveryHas}
use Rattle.occurrences.specs.Figures.{FewestIs, MostIs}
use Rattle.summaries.specs.Orders.{Reverses}
use Rattle.summaries.specs.SymbolsOf.{SymbolsAre}
use Rattle.occurrences.specs.declared.figure.Figure.{Figure}
use Rattle.occurrences.specs.declared.figure.Most.{Most}
use Rattle.answers.specs.declared.facts.Facts.{Facts}
use Rattle.answers.specs.declared.reply.Reply.{Reply}
use Rattle.answers.specs.declared.reply.Reply.TheVariants as reply
use Rattle.script.specs.declared.call.Call.{Call}
use Rattle.script.specs.declared.call.Call.TheVariants.{Table, Ask, Declare, Withdraw, Issue, Recall, Compare, Judge}
use Rattle.script.specs.declared.question.Question.{Question}
use Rattle.script.specs.declared.question.Question.TheVariants.{Every, Occurs, Brings, After}

-- what is said of the model of these parts, whose tree is t
abbrev pub FactsOf : List Part → Tree → Facts → Type 0
FactsOf ps t f =
    (f.parts ≡ length ps) × SymbolsAre t f.symbols.bits × Decides f.empty (Fits t []) × (f.conflict ≡ first_conflict_of t)

-- what a model whose tree is t replies to a question
abbrev pub Replied : Question → Tree → Reply → Type 0
Replied (Every set) t r = (every : Bool) × (nonempty : Bool) × (r ≡ reply.Every every nonempty) × EveryHas set.bits t (every, nonempty)
Replied (Occurs s) t r = (fewest : Option Figure) × (most : Most) × (r ≡ reply.Occurs fewest most) × FewestIs s t fewest × MostIs s t most
Replied (Brings a b) t r =
    (brings : Bool) × (r ≡ reply.Brings brings) × Always brings (λ m. Fits t m × HasOneOf a.bits m) (HasOneOf b.bits)
Replied (After a b) t r = (after : Bool) × (r ≡ reply.After after) × Decides after (Reverses t a b)

-- the answer about these parts: the refusal of the table, or a reply that holds of its tree
abbrev pub Answered : List Part → (Tree → Reply → Type 0) → Result Reply Refusal → Type 0
Answered ps Holds (Err refusal) = table_answer ps ≡ Err (notice refusal)
Answered ps Holds (Ok r) = (t : Tree) × (table_answer ps ≡ Ok t) × Holds t r

-- the reply says what is so of the model of these parts
abbrev pub Described : List Part → Tree → Reply → Type 0
Described ps t r = (facts : Facts) × (r ≡ reply.Model facts) × FactsOf ps t facts

-- the answer to a call about a table; a call of a message set has none here
abbrev pub CallAnswered : Call → Option (Result Reply Refusal) → Type 0
CallAnswered (Table parts) a = IsSomeAnd a (Answered (vec_items parts) (Described (vec_items parts)))
CallAnswered (Ask question parts) a = IsSomeAnd a (Answered (vec_items parts) (Replied question))
CallAnswered (Declare number parts) a = a ≡ None
CallAnswered (Withdraw number) a = a ≡ None
CallAnswered Issue a = a ≡ None
CallAnswered Recall a = a ≡ None
CallAnswered (Compare sent expected) a = a ≡ None
CallAnswered (Judge number message) a = a ≡ None
