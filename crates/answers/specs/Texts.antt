-- What is printed. Assumes nothing.
use Rattle.std.specs.Prelude.{ℕ, Bool, cond, List, ◌++◌, Some, None, codes, decimal, Option}
use Rattle.parts.specs.Sets.{listed}
use Rattle.answers.specs.declared.facts.Facts.{Facts}
use Rattle.answers.specs.declared.reply.Reply.{Reply}
use Rattle.answers.specs.declared.reply.Reply.TheVariants.{Model, Every, Occurs, Brings, After}
use Rattle.occurrences.specs.declared.figure.Figure.{Figure}
use Rattle.occurrences.specs.Texts.{figure_said, most_said}

abbrev pub yes_or_no_of : Bool → List ℕ
yes_or_no_of answer = cond answer (codes "yes") (codes "no")

-- the first conflict of a model
abbrev pub conflict_said : Option ℕ → List ℕ
conflict_said (Some place) = codes "conflict at " ++ decimal place
conflict_said None = codes "conflict-free"

-- what is said of a model
abbrev pub facts_said : Facts → List ℕ
facts_said f =
    decimal f.parts ++
    (codes " parts, symbols " ++
    (listed f.symbols.bits ++ (codes ", empty " ++ (yes_or_no_of f.empty ++ (codes ", " ++ conflict_said f.conflict)))))

-- the fewest occurrences
abbrev pub fewest_said : Option Figure → List ℕ
fewest_said (Some f) = figure_said f
fewest_said None = codes "none"

-- what is said of a reply
abbrev pub reply_said : Reply → List ℕ
reply_said (Model facts) = facts_said facts
reply_said (Every every nonempty) = codes "every " ++ (yes_or_no_of every ++ (codes ", nonempty " ++ yes_or_no_of nonempty))
reply_said (Occurs fewest most) = codes "fewest " ++ (fewest_said fewest ++ (codes ", most " ++ most_said most))
reply_said (Brings brings) = yes_or_no_of brings
reply_said (After after) = yes_or_no_of after
