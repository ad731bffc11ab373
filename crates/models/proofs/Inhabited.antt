-- Every well-formed tree has a message, and one that has a symbol a nonempty one. Assumes nothing.
use Rattle.std.proofs.Common.{◌≡◌, ℕ, zero, suc, ◌≤◌, [], ◌∷◌, ◌++◌, refl, inl, inr, ⊎_elim, arith}
use Rattle.std.proofs.lemmas.Bool.{or_cases, false≢true}
use Rattle.models.specs.Messages.{Message}
use Rattle.models.specs.Trees.{Tree, Fits, Between, Bounds, Formed, Inhabited, has_symbol}
use Rattle.models.specs.Trees.Tree.{empty, symbol, choice, sequence, interleave, count, nonempty}
use Rattle.models.proofs.Occurrences.{Shuffle-append, repeated, joined_repeated}
use Rattle.models.proofs.Unlike.{cons-nil}

pub append_left : (a b : Message) → (a ≡ [] → ⊥) → a ++ b ≡ [] → ⊥
append_left [] b ne e = ne refl
append_left (x ∷ a) b ne e = cons-nil x (a ++ b) e

pub append_right : (a b : Message) → (b ≡ [] → ⊥) → a ++ b ≡ [] → ⊥
append_right [] b ne e = ne e
append_right (x ∷ a) b ne e = cons-nil x (a ++ b) e

pub repeated_nonempty : (j : ℕ) (m : Message) → 1 ≤ j → (m ≡ [] → ⊥) → repeated j m ≡ [] → ⊥
repeated_nonempty zero m h ne e = omega arith
repeated_nonempty (suc j) m h ne e = append_left m (repeated j m) ne e

pub between_low : (low high : ℕ) → Bounds low high → Between low high low
between_low low high (a, b, c) = (omega arith, ⊎_elim inl (λ d. inr d.0) c)

pub messages : (t : Tree) → Formed t → Inhabited t
messages empty f = (([], refl), λ e. absurd (false≢true e))
messages (symbol s) f = ((s ∷ [], refl), λ e. (s ∷ [], refl, cons-nil s []))
messages (choice l r) (f, g) =
    let p = messages l f in
    let q = messages r g in (
      (p.0.0, inl p.0.1),
      λ e. ⊎_elim (λ z. let n = p.1 z in (n.0, inl n.1, n.2)) (λ z. let n = q.1 z in (n.0, inr n.1, n.2)) (or_cases (has_symbol l) (has_symbol r) e),
    )
messages (sequence l r) (f, g) =
    let p = messages l f in
    let q = messages r g in
    let a = p.0 in
    let b = q.0 in (
      (a.0 ++ b.0, (a.0, b.0, refl, a.1, b.1)),
      λ e. ⊎_elim
          (λ z. let n = p.1 z in (n.0 ++ b.0, (n.0, b.0, refl, n.1, b.1), append_left n.0 b.0 n.2))
          (λ z. let n = q.1 z in (a.0 ++ n.0, (a.0, n.0, refl, a.1, n.1), append_right a.0 n.0 n.2))
          (or_cases (has_symbol l) (has_symbol r) e),
    )
messages (interleave l r) (f, g) =
    let p = messages l f in
    let q = messages r g in
    let a = p.0 in
    let b = q.0 in (
      (a.0 ++ b.0, (a.0, b.0, Shuffle-append a.0 b.0, a.1, b.1)),
      λ e. ⊎_elim
          (λ z. let n = p.1 z in (n.0 ++ b.0, (n.0, b.0, Shuffle-append n.0 b.0, n.1, b.1), append_left n.0 b.0 n.2))
          (λ z. let n = q.1 z in (a.0 ++ n.0, (a.0, n.0, Shuffle-append a.0 n.0, a.1, n.1), append_right a.0 n.0 n.2))
          (or_cases (has_symbol l) (has_symbol r) e),
    )
messages (count t low high) (f, b) =
    let p = messages t f in
    let a = p.0 in (
      (repeated low a.0, (low, between_low low high b, joined_repeated (Fits t) a.0 a.1 low)),
      λ e. let n = p.1 e in (repeated low n.0, (low, between_low low high b, joined_repeated (Fits t) n.0 n.1 low), repeated_nonempty low n.0 b.0 n.2),
    )
messages (nonempty t) (f, s) =
    let n = (messages t f).1 s in
    ((n.0, (n.1, n.2)), λ e. (n.0, (n.1, n.2), n.2))

pub some_message : (t : Tree) → Formed t → (m : Message) × Fits t m
some_message t f = (messages t f).0
