-- When the empty message fits. Assumes nothing.
use Rattle.std.proofs.Common.{ℕ, zero, suc, ◌≤◌, Bool, ◌&&◌, [], ◌∷◌, ◌++◌, Decides, refl, subst, arith}
use Rattle.std.proofs.lemmas.Bool.Decides.{Decides-and, Decides-like}
use Rattle.models.specs.Messages.{Message, Shuffle, Followed, Joined}
use Rattle.models.specs.Messages.Shuffle.{done}
use Rattle.models.specs.Trees.{Tree, Fits, Bounds}
use Rattle.models.specs.Trees.Tree.{sequence, interleave, count}
use Rattle.summaries.specs.Empties.{EmptyCount}
use Rattle.models.proofs.Inhabited.{between_low}
use Rattle.models.proofs.Sides.{Sides, sequence_sides, interleave_sides}
use Rattle.models.proofs.Unlike.{cons-nil}

followed_empty : (P Q : Message → Type 0) → Followed P Q [] → P [] × Q []
followed_empty P Q ([], b, e, p, q) = (p, subst Q e q)
followed_empty P Q (x ∷ a, b, e, p, q) = absurd (cons-nil x (a ++ b) e)

both_empty : (P Q : Message → Type 0) {a b : Message} → Shuffle a b [] → P a → Q b → P [] × Q []
both_empty P Q done p q = (p, q)

pub sides_empty : {put : Message → Message → Message → Type 0} {form : Tree → Tree → Tree} → Sides put form → (v w : Bool) (l r : Tree)
    → Decides v (Fits l []) → Decides w (Fits r []) → Decides (v && w) (Fits (form l r) [])
sides_empty sides v w l r f g =
    Decides-like (v && w)
    (λ (p, q). sides.made l r [] ([], [], sides.mixes.appended [] [], p, q))
    (λ h. let (a, b, s, p, q) = sides.apart l r [] h in both_empty (Fits l) (Fits r) (sides.mixes.shuffled a b [] s) p q)
    (Decides-and v w f g)

pub sequence_empty : (a b : Bool) (l r : Tree) → Decides a (Fits l []) → Decides b (Fits r []) → Decides (a && b) (Fits (sequence l r) [])
sequence_empty a b l r f g = sides_empty sequence_sides a b l r f g

pub interleave_empty : (a b : Bool) (l r : Tree) → Decides a (Fits l []) → Decides b (Fits r []) → Decides (a && b) (Fits (interleave l r) [])
interleave_empty a b l r f g = sides_empty interleave_sides a b l r f g

joined_empty : (P : Message → Type 0) → P [] → (j : ℕ) → Joined P j []
joined_empty P p zero = refl
joined_empty P p (suc j) = ([], [], refl, p, joined_empty P p j)

empty_joined : (P : Message → Type 0) (j : ℕ) → 1 ≤ j → Joined P j [] → P []
empty_joined P zero h q = absurd (omega arith)
empty_joined P (suc j) h q = (followed_empty P (Joined P j) q).0

-- the empty message fits a count exactly when it fits the part counted
pub empty_count : EmptyCount
empty_count t low high some end = (
  (λ (j, w, q). empty_joined (Fits t) j (omega arith) q),
  (λ p. (low, (omega arith, end), joined_empty (Fits t) p low)),
)

pub count_empty : (v : Bool) (t : Tree) (low high : ℕ) → Bounds low high → Decides v (Fits t []) → Decides v (Fits (count t low high) [])
count_empty v t low high b d = let e = empty_count t low high b.0 (between_low low high b).1 in Decides-like v e.1 e.0 d
