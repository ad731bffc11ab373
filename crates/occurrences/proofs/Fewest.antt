-- The fewest occurrences of a symbol, kind by kind. Assumes nothing.
use Rattle.std.proofs.Common.{◌≡◌, ℕ, zero, suc, ◌+◌, ◌*◌, ◌≤◌, min, Bool, true, false, [], ◌∷◌, ◌++◌, Some, None, Option, sym, refl, ap, ◌∙◌, subst, ◌⊎◌, inl, inr, ⊎_elim, mul-le-mul_right, mul-zero, arith}
use Rattle.std.specs.Option.{option_or}
use Rattle.std.proofs.Math.Nat.{one-le-mul}
use Rattle.std.proofs.lemmas.Bool.{cases_eq, cases_lt}
use Rattle.models.specs.Messages.{Message, HasOneOf, Occurs, occurrences}
use Rattle.models.specs.Trees.{Tree, Fits, Carries, Bounds, Formed}
use Rattle.models.specs.Trees.Tree.{symbol, choice, count, nonempty}
use Rattle.models.proofs.Counted.{counted_same, counted_some, some_counted, counted_none, counted_append, counted_repeated, joined_least, joined_some}
use Rattle.models.proofs.Inhabited.{some_message, between_low}
use Rattle.models.proofs.Occurrences.{repeated, joined_repeated}
use Rattle.parts.specs.Sets.{only}
use Rattle.parts.proofs.SymbolSets.{in_only, only_in}
use Rattle.summaries.specs.Always.{Always}
use Rattle.occurrences.specs.Figures.{figure, fewest_of_sides, IsFewest, FewestIs, OccurringIs}
use Rattle.occurrences.specs.declared.figure.Figure.{Figure}
use Rattle.occurrences.specs.declared.occurs.Occurring.{Occurring}
use Rattle.summaries.proofs.Carried.{carries_low, carries_nonempty}
use Rattle.occurrences.proofs.Added.{Found, Adds, flipped, mixed, again}

-- the fewest, said by numbers alone
record Least (s : ℕ) (t : Tree) (n : ℕ) : Type 0 where
  pub some : 1 ≤ n
  pub found : Found s t n
  pub least : (m : Message) → Fits t m → 1 ≤ occurrences s m → n ≤ occurrences s m

is_least : (s : ℕ) (t : Tree) (n : ℕ) → IsFewest s t n → Least s t n
is_least s t n ((m, f, o, e), h) = record {
  some = omega (arith, counted_some s m o);
  found = (m, f, e);
  least = λ x fit some. h x fit (some_counted s x some);
}

is_fewest : (s : ℕ) (t : Tree) (n : ℕ) → Least s t n → IsFewest s t n
is_fewest s t n h =
    let (m, f, e) = h.found in
    ((m, f, some_counted s m (omega arith), e), λ x fit o. h.least x fit (counted_some s x o))

-- the message has s
abbrev pub Has : ℕ → Message → Type 0
Has s m = 1 ≤ occurrences s m

pub symbol_fewest : (s x : ℕ) → x ≡ s → IsFewest s (symbol x) 1
symbol_fewest s x same = ((x ∷ [], refl, inl same, counted_same s x [] same), λ m f o. counted_some s m o)

-- where some message has s, to have a symbol of the set of s alone is to have s
pub always_has : (s : ℕ) (t : Tree) (b : Bool) (n : ℕ) → Formed t → IsFewest s t n → Always b (Fits t) (HasOneOf (only s)) → Always b (Fits t) (Has s)
always_has s t true n formed fewest h = λ m f.
    let (x, i, o) = h m f in
    counted_some s m (subst (λ y. Occurs y m) (sym (in_only s x i)) o)
always_has s t false n formed ((a, g, p, e), k) (m, f, lacks) =
    (m, f, λ some. lacks (s, only_in s (carries_low t s formed (a, g, p)), some_counted s m some))

pub without : (s : ℕ) (t : Tree) → (m : Message) × Fits t m × (Has s m → ⊥) → Found s t 0
without s t (m, f, lacks) = (m, f, counted_none s m (λ o. lacks (counted_some s m o)))

never : (s : ℕ) (t : Tree) → (Carries t s → ⊥) → (m : Message) → Fits t m → occurrences s m ≡ 0
never s t none m f = counted_none s m (λ o. none (m, f, o))

-- one side has it wherever the whole has, and the other can go without
side_least : (s : ℕ) (l r u : Tree) → Adds s l r u → (n : ℕ) → Found s r 0
    → ((a b : Message) → Fits l a → Fits r b → 1 ≤ occurrences s a + occurrences s b → Has s a) → Least s l n → Least s u n
side_least s l r u mix n lacks here h = record {
  some = h.some;
  found = mixed s l r u mix n 0 n (omega arith) h.found lacks;
  least = λ x fit some.
      let (a, b, f, g, e) = mix.parts x fit in
      omega (arith, h.least a f (here a b f g (omega arith)));
}

both_least : (s : ℕ) (l r u : Tree) → Adds s l r u → (b c : Bool) (m n : ℕ) → Always b (Fits l) (Has s) → Always c (Fits r) (Has s)
    → Least s l m → Least s r n → Least s u (fewest_of_sides b c m n)
both_least s l r u mix true true m n every_l every_r h k = record {
  some = omega arith;
  found = mixed s l r u mix m n (m + n) refl h.found k.found;
  least = λ x fit some.
      let (a, b, f, g, e) = mix.parts x fit in
      omega (arith, h.least a f (every_l a f), k.least b g (every_r b g));
}
both_least s l r u mix true false m n every_l lacks_r h k = side_least s l r u mix m (without s r lacks_r) (λ a b f g some. every_l a f) h
both_least s l r u mix false true m n lacks_l every_r h k =
    side_least s r l u (flipped s l r u mix) n (without s l lacks_l) (λ b a g f some. every_r b g) k
both_least s l r u mix false false m n lacks_l lacks_r h k = record {
  some = omega arith;
  found = elim (cases_lt m n) [
    | inl lt ↦ mixed s l r u mix m 0 (min m n) (omega arith) h.found (without s r lacks_r)
    | inr ge ↦ mixed s l r u mix 0 n (min m n) (omega arith) (without s l lacks_l) k.found
  ];
  least = λ x fit some.
      let (a, b, f, g, e) = mix.parts x fit in
      elim (cases_eq (occurrences s a) 0) [
        | inl none ↦ omega (arith, k.least b g (omega arith))
        | inr has ↦ omega (arith, h.least a f (omega arith))
      ];
}

-- the other side never has it
pub side_fewest : (s : ℕ) (l r u : Tree) → Adds s l r u → (o : Option Figure) → Formed r → (Carries r s → ⊥) → FewestIs s l o → FewestIs s u o
side_fewest s l r u mix None formed none h = λ (m, fit, o).
    let (a, b, f, g, e) = mix.parts m fit in
    omega (arith, counted_some s m o, never s l h a f, never s r none b g)
side_fewest s l r u mix (Some x) formed none (n, e, h) =
    let (b, g) = some_message r formed in
    let lacks : Found s r 0 = (b, g, never s r none b g) in
    let whole = side_least s l r u mix n lacks (λ p q f g some. omega (arith, never s r none q g)) (is_least s l n h) in
    (n, e, is_fewest s u n whole)

-- one of the sides never has it
pub lone_fewest : (s : ℕ) (l r u : Tree) → Adds s l r u → Formed l → Formed r → (o p : Option Figure) → (o ≡ None) ⊎ (p ≡ None)
    → FewestIs s l o → FewestIs s r p → FewestIs s u (option_or o p)
lone_fewest s l r u mix formed_l formed_r None p lone f g = side_fewest s r l u (flipped s l r u mix) p formed_l f g
lone_fewest s l r u mix formed_l formed_r (Some x) None lone f g = side_fewest s l r u mix (Some x) formed_r g f
lone_fewest s l r u mix formed_l formed_r (Some x) (Some y) lone f g = grind arith

-- both sides may have it
pub both_fewest : (s : ℕ) (l r u : Tree) → Adds s l r u → Formed l → Formed r → (v w : Occurring) (f g h : Figure) → v.fewest ≡ Some f → w.fewest ≡ Some g
    → ((a b : ℕ) → f ≡ figure a → g ≡ figure b → h ≡ figure (fewest_of_sides v.every.0 w.every.0 a b))
    → OccurringIs s l v → OccurringIs s r w → FewestIs s u (Some h)
both_fewest s l r u mix formed_l formed_r v w f g h v_is w_is together x y =
    let (a, d, m) = subst (FewestIs s l) v_is x.0 in
    let (b, e, n) = subst (FewestIs s r) w_is y.0 in
    let left = always_has s l v.every.0 a formed_l m x.2.0 in
    let right = always_has s r w.every.0 b formed_r n y.2.0 in
    let whole = both_least s l r u mix v.every.0 w.every.0 a b left right (is_least s l a m) (is_least s r b n) in
    (fewest_of_sides v.every.0 w.every.0 a b, together a b d e, is_fewest s u _ whole)

pub choice_fewest : (s : ℕ) (l r : Tree) (a b : ℕ) → IsFewest s l a → IsFewest s r b → IsFewest s (choice l r) (min a b)
choice_fewest s l r a b h k =
    let left = is_least s l a h in
    let right = is_least s r b k in
    is_fewest s (choice l r) (min a b) (record {
      some = omega arith;
      found = elim (cases_lt a b) [
        | inl lt ↦ let (m, f, e) = left.found in (m, inl f, omega arith)
        | inr ge ↦ let (m, f, e) = right.found in (m, inr f, omega arith)
      ];
      least = λ m fit some. ⊎_elim
          (λ f. omega (arith, left.least m f some))
          (λ f. omega (arith, right.least m f some))
          fit;
    })

-- every piece has it
pub every_repeated : (s : ℕ) (t : Tree) (low high n : ℕ) → Bounds low high → Always true (Fits t) (Has s) → IsFewest s t n
    → IsFewest s (count t low high) (low * n)
every_repeated s t low high n bounds every h =
    let piece = is_least s t n h in
    is_fewest s (count t low high) (low * n) (record {
      some = one-le-mul bounds.0 piece.some;
      found = again s t low high low n (between_low low high bounds) piece.found;
      least = λ x (j, w, q) some.
          let pieces = joined_least s n (Fits t) (λ a g. piece.least a g (every a g)) j x q in
          omega (arith, mul-le-mul_right n w.0);
    })

-- one piece that has it is enough
pub once_repeated : (s : ℕ) (t : Tree) (low high n : ℕ) → Bounds low high → Found s t 0 → IsFewest s t n → IsFewest s (count t low high) n
once_repeated s t zero high n bounds lacks h = absurd (omega (arith, bounds.0))
once_repeated s t (suc k) high n bounds (b, g, none) h =
    let piece = is_least s t n h in
    let (a, f, e) = piece.found in
    let both = counted_append s a (repeated k b) in
    let rest : occurrences s (repeated k b) ≡ 0 = counted_repeated s k b ∙ ap (λ i. k * i) none ∙ mul-zero k in
    is_fewest s (count t (suc k) high) n (record {
      some = piece.some;
      found = (a ++ repeated k b, (suc k, between_low (suc k) high bounds, (a, repeated k b, refl, f, joined_repeated (Fits t) b g k)), omega arith);
      least = λ x (j, w, q) some. joined_some s n (Fits t) (λ y fit has. piece.least y fit has) j x q some;
    })

pub nonempty_fewest : (s : ℕ) (t : Tree) (o : Option Figure) → FewestIs s t o → FewestIs s (nonempty t) o
nonempty_fewest s t None none = λ h. none (carries_nonempty t s h)
nonempty_fewest s t (Some x) (n, e, ((m, f, o, c), h)) = (n, e, ((m, (f, λ z. subst (Occurs s) z o), o, c), λ y (g, ne) p. h y g p))
