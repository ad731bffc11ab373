-- The chain of the five families of one model. Assumes nothing.
use Rattle.std.specs.Prelude.{◌≡◌}
use Rattle.models.specs.Checked.{tree_of}
use Rattle.models.specs.Trees.{Tree}
use Rattle.set.specs.declared.expected.Expected.{Expected}

-- each of the five was made of the model of the tree t
abbrev pub AllOf : Tree → Expected → Expected → Expected → Expected → Expected → Type 0
AllOf t a b c d e = (tree_of a.model ≡ t) × (tree_of b.model ≡ t) × (tree_of c.model ≡ t) × (tree_of d.model ≡ t) × (tree_of e.model ≡ t)
