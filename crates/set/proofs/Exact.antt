-- What the five families say together. Assumes nothing.
use Rattle.std.proofs.Common.{◌≡◌, ℕ, ◌⊎◌, List, [], ◌∷◌, sym, refl, subst, inl, inr, ⊎_elim, arith}
use Rattle.std.proofs.lemmas.Bool.{cases_eq, cases_lt, cases_Bool, both_ways}
use Rattle.models.specs.Messages.{Message, HasOneOf, occurrences}
use Rattle.models.specs.Trees.{Tree, Between, Fits, Stands, Formed}
use Rattle.parts.specs.Sets.{In}
use Rattle.parts.proofs.SymbolSets.{cases_in}
use Rattle.rules.specs.Rules.{Rule, KeepsAll, Breaks, SomeBreaks}
use Rattle.set.specs.Bounded.{bounds_in}
use Rattle.set.specs.Exact.{FiveExact, FiveInclude, FiveFit, ValuesTell}
use Rattle.set.specs.Five.{when, lower_bound, lower_bound_rules, cardinality, cardinality_rules, co_occurrence_rules, order, order_rules_from, order_rules, five}
use Rattle.set.specs.Holding.{holds, symbols_in, takes_empty}
use Rattle.set.specs.Precedence.{ordered}
use Rattle.set.proofs.Fitting.{Filled, fits_filled, has_some, fits_obeys, obeys_fits}
use Rattle.set.proofs.Holding.{holds_stands, stands_holds, symbols_stand, empty_taken, Within, fits_within}
use Rattle.set.proofs.Lists.{KeepsAll-append, keeps_append, KeepsAll-unless, keeps_unless, KeepsAll-when, keeps_when, KeepsAll-standing, keeps_standing, none_broken, all_kept}
use Rattle.set.proofs.Obeying.{Obeys, brought_from}

-- what the five lists ask, without their lists
abbrev Does : Tree → Message → Type 0
Does t m = Within t m × Filled t m × Obeys t m

module _ (t : Tree) (m : Message) (f : Formed t) where
  -- the rules of one symbol in the third and the fifth list
  abbrev own_cardinality : ℕ → List Rule
  own_cardinality s = cardinality s (bounds_in s t) ∷ []

  abbrev own_order : ℕ → ℕ → List Rule
  own_order a b = when (ordered a b t) (order a b)

  does_five : KeepsAll (five t) m → Does t m
  does_five (upper, rest) =
      let (lower, rest) = KeepsAll-append m (lower_bound_rules t) _ rest in
      let (counts, rest) = KeepsAll-append m (cardinality_rules t) _ rest in
      let (brought, orders) = KeepsAll-append m (co_occurrence_rules t) (order_rules t) rest in (
        (λ s h. (symbols_stand t f s).0 (upper s h)),
        (λ e none. (subst (HasOneOf (symbols_in t)) none (KeepsAll-unless m (takes_empty t) (lower_bound (symbols_in t)) lower e)).2),
        record {
          counted = λ s p. (KeepsAll-standing m t f own_cardinality counts s p).0;
          brought = brought;
          in_order = λ a b p q.
              let from_a = KeepsAll-standing m t f (λ a. order_rules_from a t) orders a p in
              KeepsAll-when m (ordered a b t) (order a b) (KeepsAll-standing m t f (own_order a) from_a b q);
        },
      )

  five_done : Does t m → KeepsAll (five t) m
  five_done (w, filled, o) =
      let lower = keeps_unless m (takes_empty t) (lower_bound (symbols_in t)) (λ e. has_some t m f w (filled e)) in
      let counts = keeps_standing m t f own_cardinality (λ s p. (o.counted s p, tt)) in
      let orders = keeps_standing m t f (λ a. order_rules_from a t) (λ a p.
      keeps_standing m t f (own_order a) (λ b q. keeps_when m (ordered a b t) (order a b) (o.in_order a b p q))) in (
        (λ s h. (symbols_stand t f s).1 (w s h)),
        keeps_append m (lower_bound_rules t) _ lower (keeps_append m (cardinality_rules t) _ counts (keeps_append m (co_occurrence_rules t) (order_rules t) o.brought orders)),
      )

pub five_exact : FiveExact
five_exact t f c m = (
  (λ k. let (w, filled, o) = does_five t m f k in obeys_fits t f c m w filled o),
  (λ h. five_done t m f (fits_within t m h, fits_filled t m f h, fits_obeys t f c m h)),
)

-- what can be decided holds where it cannot be refuted
decided : {A : Type 0} → A ⊎ (A → ⊥) → ((A → ⊥) → ⊥) → A
decided (inl a) h = a
decided (inr fails) h = absurd (h fails)

cases_has : (set : ℕ) (m : Message) → HasOneOf set m ⊎ (HasOneOf set m → ⊥)
cases_has set [] = inr (λ (s, i, h). h)
cases_has set (x ∷ m) =
    elim (cases_in set x) [
      | inl i ↦ inl (x, i, inl refl)
      | inr fails ↦
          ⊎_elim (λ (s, i, h). inl (s, i, inr h))
          (λ none. inr (λ (s, i, h). ⊎_elim (λ e. fails (subst (In set) (sym e) i)) (λ z. none (s, i, z)) h))
          (cases_has set m)
    ]

cases_between : (low high j : ℕ) → Between low high j ⊎ (Between low high j → ⊥)
cases_between low high j =
    elim (cases_lt j low) [
      | inl below ↦ inr (λ (a, b). omega arith)
      | inr least ↦ elim (cases_eq high 0) [
        | inl e ↦ inl (least, inl e)
        | inr bound ↦ elim (cases_lt high j) [
          | inl above ↦ inr (λ (a, b). omega arith)
          | inr most ↦ inl (least, inr most)
        ]
      ]
    ]

cases_stands : (t : Tree) (s : ℕ) → Stands t s ⊎ (Stands t s → ⊥)
cases_stands t s = ⊎_elim (λ e. inl ((holds_stands t s).0 e)) (λ e. inr (λ p. both_ways (holds s t) e (stands_holds t s p))) (cases_Bool (holds s t))

-- a message that cannot be shown to break one of the five lists keeps them
kept_undenied : (t : Tree) (m : Message) → Formed t → ((KeepsAll (five t) m → ⊥) → ⊥) → KeepsAll (five t) m
kept_undenied t m f kept = five_done t m f (
  (λ s h. decided (cases_stands t s) (λ fails. does (λ d. fails (d.0 s h)))),
  (λ e none. does (λ d. d.1 e none)),
  record {
    counted = λ s p h. decided (cases_between (bounds_in s t).low (bounds_in s t).high (occurrences s m)) (λ fails. does (λ d. fails (d.2.counted s p h)));
    brought = brought_from m t (λ P. (P m → ⊥) → ⊥) (λ P Q g h fails. h (λ p. fails (g m p)))
        (λ l r g g' u v bring e has. decided (cases_has (symbols_in r) m) (λ fails. bring (λ b. fails (b e has))))
        t f (λ s z. z) (λ fails. does (λ d. fails d.2.brought));
    in_order = λ a b p q e h. does (λ d. d.2.in_order a b p q e h);
  },
)
  where
    does : (Does t m → ⊥) → ⊥
    does fails = kept (λ k. fails (does_five t m f k))

pub five_include : FiveInclude
five_include sent expected f c = (
  (λ none m h. (five_exact expected f c m).0
      (kept_undenied expected m f (none_broken (Fits sent) (SomeBreaks sent) (λ rule n s b. (n, s, b)) (five expected) none m h))),
  (λ included. all_kept (Fits sent) (SomeBreaks sent) (λ rule p. p) (five expected) (λ m h. (five_exact expected f c m).1 (included m h))),
)

pub five_fit : FiveFit
five_fit t m f c = (
  (λ none. (five_exact t f c m).0
      (kept_undenied t m f (none_broken (λ n. n ≡ m) (Breaks m) (λ rule n e b. subst (λ k. Breaks k rule) e b) (five t) none m refl))),
  (λ h. all_kept (λ n. n ≡ m) (Breaks m) (λ rule b. (m, refl, b)) (five t) (λ n e. subst (KeepsAll (five t)) (sym e) ((five_exact t f c m).1 h))),
)

pub values_tell : ValuesTell
values_tell t f = (empty_taken t f, symbols_stand t f, holds_stands t)
