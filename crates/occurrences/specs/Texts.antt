-- What is printed of a figure and of the most occurrences. Assumes nothing.
use Rattle.std.specs.Prelude.{ℕ, List, codes, decimal}
use Rattle.occurrences.specs.declared.figure.Figure.{Figure}
use Rattle.occurrences.specs.declared.figure.Figure.TheVariants.{Exactly, Above}
use Rattle.occurrences.specs.declared.figure.Most.{Most}
use Rattle.occurrences.specs.declared.figure.Most.TheVariants.{Ends, NoEnd}

-- a number of occurrences
abbrev pub figure_said : Figure → List ℕ
figure_said (Exactly n) = decimal n
figure_said Above = codes "above 10000"

abbrev pub most_said : Most → List ℕ
most_said (Ends f) = figure_said f
most_said NoEnd = codes "no end"
