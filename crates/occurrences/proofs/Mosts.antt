-- The most occurrences of a symbol, kind by kind. Assumes nothing.
use Rattle.std.proofs.Common.{◌≡◌, ℕ, ◌+◌, ◌*◌, ◌≤◌, max, [], ◌∷◌, sym, refl, ap, ◌∙◌, subst, inl, inr, ⊎_elim, mul-le-mul_right, mul_comm, mul-zero, le-mul_of_pos_right, arith, rules}
use Rattle.std.proofs.lemmas.Bool.{cases_eq, cases_lt}
use Rattle.models.specs.Messages.{Message, occurrences}
use Rattle.models.specs.Trees.{Tree, Fits, Bounds, Formed}
use Rattle.models.specs.Trees.Tree.{symbol, choice, count, nonempty}
use Rattle.models.proofs.Counted.{joined_most}
use Rattle.models.proofs.Inhabited.{messages, some_message, between_low}
use Rattle.occurrences.specs.Figures.{figure, IsMost, Endless, MostIs}
use Rattle.occurrences.specs.declared.figure.Most.{Most}
use Rattle.occurrences.specs.declared.figure.Most.TheVariants.{Ends, NoEnd}
use Rattle.occurrences.specs.contracts.figure.MostOrd.TheImpl as order
use Rattle.std.specs.Ordering.{ord_max}
use Rattle.occurrences.proofs.Added.{Found, Adds, mixed, again}

pub symbol_most : (s x n : ℕ) → occurrences s (x ∷ []) ≡ n → IsMost s (symbol x) n
symbol_most s x n e = ((x ∷ [], refl, e), λ m f. omega (arith, ap (occurrences s) f ∙ e))

pub choice_most : (s : ℕ) (l r : Tree) (a b : ℕ) → IsMost s l a → IsMost s r b → IsMost s (choice l r) (max a b)
choice_most s l r a b ((m, f, d), h) ((n, g, e), k) = (
  elim (cases_lt a b) [ inl lt ↦ (n, inr g, omega arith) | inr ge ↦ (m, inl f, omega arith) ],
  λ x fit. ⊎_elim (λ p. omega (arith, h x p)) (λ q. omega (arith, k x q)) fit,
)

-- the larger of two, by the derived order
abbrev larger : Most → Most → Most
larger = ord_max (order.ghosts).cmp

larger_figure : (a b : ℕ) → larger (Ends (figure a)) (Ends (figure b)) ≡ Ends (figure (max a b))
larger_figure a b = search rules

-- no end is above each figure
pub choice_larger : (s : ℕ) (l r : Tree) (v w : Most) → MostIs s l v → MostIs s r w → MostIs s (choice l r) (larger v w)
choice_larger s l r NoEnd NoEnd f g = λ n. let (m, fit, more) = f n in (m, inl fit, more)
choice_larger s l r NoEnd (Ends y) f g = λ n. let (m, fit, more) = f n in (m, inl fit, more)
choice_larger s l r (Ends x) NoEnd f g = λ n. let (m, fit, more) = g n in (m, inr fit, more)
choice_larger s l r (Ends x) (Ends y) (a, d, h) (b, e, k) =
    rw (d, e, larger_figure a b) (max a b, refl, choice_most s l r a b h k)

module _ (s : ℕ) (l r u : Tree) (mix : Adds s l r u) where
  pub both_most : (a b : ℕ) → IsMost s l a → IsMost s r b → IsMost s u (a + b)
  both_most a b (f, h) (g, k) = (
    mixed s l r u mix a b (a + b) refl f g,
    λ x fit.
        let (p, q, f, g, sum) = mix.parts x fit in
        omega (arith, h p f, k q g),
  )

  pub side_endless : Formed r → Endless s l → Endless s u
  side_endless formed h = λ n.
      let (a, f, more) = h n in
      let (b, g) = some_message r formed in
      let (x, fit, sum) = mix.whole a b f g in
      (x, fit, omega arith)

module _ (s : ℕ) (t : Tree) (low high : ℕ) where
  pub endless_repeated : Bounds low high → Endless s t → Endless s (count t low high)
  endless_repeated bounds h = λ n.
      let (m, f, more) = h n in
      let (x, fit, e) = again s t low high low (occurrences s m) (between_low low high bounds) (m, f, refl) in
      (x, fit, omega (arith, le-mul_of_pos_right (occurrences s m) bounds.0, mul_comm low (occurrences s m)))

  pub most_repeated_lem : (n : ℕ) → Bounds low high → 1 ≤ high → IsMost s t n → IsMost s (count t low high) (high * n)
  most_repeated_lem n bounds some (f, h) =
      let within : low ≤ high = elim bounds.2 [ inl none ↦ omega arith | inr (a, b) ↦ a ] in (
        again s t low high high n (within, inr (omega arith)) f,
        λ x (j, w, q).
            let pieces = joined_most s n (Fits t) h j x q in
            let few : j ≤ high = elim w.1 [ inl none ↦ omega arith | inr below ↦ below ] in
            omega (arith, mul-le-mul_right n few),
      )

  -- nothing repeated is nothing
  pub none_repeated : (n : ℕ) → n ≡ 0 → Bounds low high → IsMost s t n → IsMost s (count t low high) n
  none_repeated n none bounds (f, h) =
      let times : (j : ℕ) → j * n ≡ n = λ j. ap (λ k. j * k) none ∙ mul-zero j ∙ sym none in (
        subst (Found s (count t low high)) (times low) (again s t low high low n (between_low low high bounds) f),
        λ x (j, w, q). subst (λ k. occurrences s x ≤ k) (times j) (joined_most s n (Fits t) h j x q),
      )

  -- something repeated without end has no end
  pub some_repeated : (n : ℕ) → high ≡ 0 → 1 ≤ n → IsMost s t n → Endless s (count t low high)
  some_repeated n endless some (f, h) = λ k.
      let (x, fit, times) = again s t low high (max low k) n (omega arith, inl endless) f in
      (x, fit, omega (arith, le-mul_of_pos_right (max low k) some))

-- a message that has s is not empty
filled : (s : ℕ) (m : Message) → 1 ≤ occurrences s m → m ≡ [] → ⊥
filled s m some e = omega (arith, ap (occurrences s) e)

pub nonempty_most : (s : ℕ) (t : Tree) (v : Most) → Formed (nonempty t) → MostIs s t v → MostIs s (nonempty t) v
nonempty_most s t NoEnd formed h = λ n. let (m, f, more) = h (max 1 n) in (m, (f, filled s m (omega arith)), omega arith)
nonempty_most s t (Ends x) formed (n, e, ((m, f, c), h)) = (
  n,
  e,
  (
    elim (cases_eq n 0) [
      | inl none ↦ let (y, g, ne) = (messages t formed.0).1 formed.1 in (y, (g, ne), omega (arith, h y g))
      | inr some ↦ (m, (f, filled s m (omega arith)), c)
    ],
    λ y (g, ne). h y g,
  ),
)
