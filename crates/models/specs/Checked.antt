-- What a checked model stands for. Assumes nothing.
use Rattle.std.specs.Prelude.{List, Ok, Err, Result}
use Rattle.parts.specs.declared.part.Part.{Part}
use Rattle.models.specs.declared.model.Model.{Model}
use Rattle.parts.specs.declared.refusal.Refusal.{Refusal}
use Rattle.parts.specs.Refusals.{Notice, notice}
use Rattle.models.specs.Sheets.{tree}
use Rattle.models.specs.Trees.{Tree}

abbrev pub parts_of : Model → List Part
parts_of m = m.parts.now

abbrev pub tree_of : Model → Tree
tree_of m = tree (parts_of m)

-- what an answer tells: the tree of what it gives, or the refusal's number, layer and place
abbrev pub told : {X : Type 0} → (X → Tree) → Result X Refusal → Result Tree Notice
told tree_given (Ok x) = Ok (tree_given x)
told tree_given (Err refusal) = Err (notice refusal)
