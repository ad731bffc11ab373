-- What values tell of waiting trees. Assumes nothing.
use Rattle.std.specs.Prelude.{List, [], ◌∷◌}
use Rattle.models.specs.Trees.{Tree, Formed}

-- each value tells of the tree at its place
abbrev pub Told : {V : Type 0} → (Tree → V → Type 0) → List Tree → List V → Type 0
Told M [] [] = Unit {0}
Told M [] (v ∷ vs) = ⊥
Told M (t ∷ ts) [] = ⊥
Told M (t ∷ ts) (v ∷ vs) = M t v × Told M ts vs

-- each of them is well formed
abbrev pub AllFormed : List Tree → Type 0
AllFormed [] = Unit {0}
AllFormed (t ∷ ts) = Formed t × AllFormed ts

-- a true value taken by a part gives a true value of it
abbrev pub Keeps1 : {V : Type 0} → (Tree → V → Type 0) → (Tree → Tree) → V → V → Type 0
Keeps1 M f a r = (t : Tree) → Formed (f t) → M t a → M (f t) r

abbrev pub Keeps2 : {V : Type 0} → (Tree → V → Type 0) → (Tree → Tree → Tree) → V → V → V → Type 0
Keeps2 M f a b r = (t u : Tree) → Formed (f t u) → M t a → M u b → M (f t u) r
