-- How often a symbol occurs in a message of two sides, and in one repeated. Assumes nothing.
use Rattle.std.proofs.Common.{◌≡◌, ℕ, ◌+◌, ◌*◌, ◌++◌, ap, ◌∙◌, arith}
use Rattle.models.specs.Messages.{Message, occurrences}
use Rattle.models.specs.Trees.{Tree, Fits, Between}
use Rattle.models.specs.Trees.Tree.{sequence, interleave, count}
use Rattle.models.proofs.Counted.{counted_append, counted_shuffle, counted_repeated}
use Rattle.models.proofs.Occurrences.{repeated, joined_repeated}
use Rattle.models.proofs.Sides.{Sides, sequence_sides, interleave_sides}

-- some message has s just n times
abbrev pub Found : ℕ → Tree → ℕ → Type 0
Found s t n = (m : Message) × Fits t m × (occurrences s m ≡ n)

-- each message of u is made of one of l and one of r, and any two make one
pub record Adds (s : ℕ) (l r u : Tree) : Type 0 where
  pub parts : (m : Message) → Fits u m → (a : Message) × (b : Message) × Fits l a × Fits r b × (occurrences s m ≡ occurrences s a + occurrences s b)
  pub whole : (a b : Message) → Fits l a → Fits r b → Found s u (occurrences s a + occurrences s b)

adds : {put : Message → Message → Message → Type 0} {form : Tree → Tree → Tree} → Sides put form → (s : ℕ) (l r : Tree) → Adds s l r (form l r)
adds sides s l r = record {
  parts = λ m h.
      let (a, b, p, f, g) = sides.apart l r m h in
      (a, b, f, g, counted_shuffle s (sides.mixes.shuffled a b m p));
  whole = λ a b f g. (a ++ b, sides.made l r (a ++ b) (a, b, sides.mixes.appended a b, f, g), counted_append s a b);
}

-- what holds of every such tree holds of the two kinds
pub for_both : (s : ℕ) (l r : Tree) (P : Tree → Type 0) → ((u : Tree) → Adds s l r u → P u) → P (sequence l r) × P (interleave l r)
for_both s l r P f = (f (sequence l r) (adds sequence_sides s l r), f (interleave l r) (adds interleave_sides s l r))

module _ (s : ℕ) (l r u : Tree) (mix : Adds s l r u) where
  pub flipped : Adds s r l u
  flipped = record {
    parts = λ m fit. let (a, b, f, g, e) = mix.parts m fit in (b, a, g, f, omega arith);
    whole = λ b a g f. let (m, fit, e) = mix.whole a b f g in (m, fit, omega arith);
  }

  pub mixed : (a b n : ℕ) → a + b ≡ n → Found s l a → Found s r b → Found s u n
  mixed a b n sum (p, f, d) (q, g, e) = let (m, fit, both) = mix.whole p q f g in (m, fit, omega arith)

pub again : (s : ℕ) (t : Tree) (low high j n : ℕ) → Between low high j → Found s t n → Found s (count t low high) (j * n)
again s t low high j n within (m, f, e) = (repeated j m, (j, within, joined_repeated (Fits t) m f j), counted_repeated s j m ∙ ap (λ k. j * k) e)
