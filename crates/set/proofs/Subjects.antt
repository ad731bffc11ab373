-- What rules a message breaks, and what rules some message of a model breaks. Assumes nothing.
use Rattle.std.proofs.Common.{◌≡◌, ℕ, ◌<◌, ◌≤◌, Bool, true, false, not, take, Decides, List, [], ◌∷◌, ◌++◌, length, Some, None, Option, sym, refl, ap, ◌∙◌, subst, inl, inr, arith}
use lib.Bits.{bit_and}
use Rattle.std.proofs.lemmas.List.{take_at}
use Rattle.std.proofs.lemmas.Bool.{cases_Bool, both_ways, false≢true}
use Rattle.parts.specs.declared.part.Repeats.{Repeats}
use Rattle.parts.specs.Sets.{In, EmptyIs, members}
use Rattle.parts.proofs.SymbolSets.{both_in, in_both}
use Rattle.models.specs.Messages.{Message, Occurs, HasOneOf, occurrences, After}
use Rattle.models.specs.Trees.{Tree, Fits, Between, Formed}
use Rattle.models.proofs.Counted.{counted_some, some_counted}
use Rattle.models.proofs.Ordered.{After-append, after_across}
use Rattle.rules.specs.Rules.{Breaks, SomeBreaks, FirstIs}
use Rattle.rules.specs.declared.verdict.Verdict.{Verdict}
use Rattle.summaries.specs.Always.{Always}
use Rattle.summaries.proofs.Carried.{carried_stands}
use Rattle.summaries.specs.Orders.{Reverses}
use Rattle.set.specs.Asking.{met_in, LastAt}
use Rattle.set.proofs.Sofar.{SymbolsMet}
use Rattle.set.specs.Five.{cardinality, co_occurrence, order}
use Rattle.set.specs.Subjects.{OthersKept, orders_after}
use Rattle.set.specs.Holding.{symbols_in}
use Rattle.set.proofs.Holding.{symbols_stand}
use Rattle.set.proofs.Agreeing.{after_first, after_second}
use Rattle.set.proofs.Meeting.{met_in_is}
use Rattle.set.proofs.Skipping.{none_each, passed, member_in}

-- it has a symbol of the set where the symbols of both are not none
pub met_has : (set met both : ℕ) (m : Message) (none : Bool) → both ≡ bit_and met set → SymbolsMet m met → EmptyIs none both → Decides (not none) (HasOneOf set m)
met_has set met both m true e are none = (
  (λ t. absurd (false≢true t)),
  (λ (s, has, occurs). absurd (none s (subst (λ n. In n s) (sym e) (both_in met set s ((are s).1 has.0 occurs) has)))),
)
met_has set met both m false e are (s, h) =
    let (x, y) = in_both met set s (subst (λ n. In n s) e h) in
    ((λ t. (s, y, (are s).0 x)), (λ t. refl))

-- what a comes after, where its last place is known
last_after : (a b : ℕ) (before after : Message) → (Occurs a after → ⊥) → After a b (before ++ (a ∷ after)) → Occurs b before
last_after a b before after none h =
    elim (After-append a b before (a ∷ after) h) [
      | inl (inl z) ↦ after_second a b before z
      | inl (inr (inl (e, z))) ↦ absurd (none z)
      | inl (inr (inr z)) ↦ absurd (none (after_first a b after z))
      | inr (z, g) ↦ z
    ]

-- a message without a keeps every rule that a does not come after
pub orders_kept : (a set : ℕ) (m : Message) → LastAt a m None → FirstIs (Breaks m) (orders_after a set) None
orders_kept a set m none = none_each (Breaks m) (λ b. order a b ∷ []) _ (λ b. inr ((λ breaks. breaks (λ h. none (after_first a b m h))), refl))

-- one with a breaks those of what stands before the last a
module _ (a set met both k : ℕ) (m : Message) (last : LastAt a m (Some k)) (met_is : met ≡ met_in (take k m)) (same : both ≡ bit_and met set) where
  are : SymbolsMet (take k m) met
  are = subst (SymbolsMet (take k m)) (sym met_is) (met_in_is (take k m))

  start : (before after : Message) → m ≡ before ++ (a ∷ after) → length before ≡ k → take k m ≡ before
  start before after e long = ap (take k) e ∙ take_at before (a ∷ after) k long

  both_broken : (b : ℕ) → In both b → Breaks m (order a b)
  both_broken b h =
      let (before, after, e, long, none) = last in
      let (x, y) = in_both met set b (subst (λ n. In n b) same h) in
      λ kept. kept (subst (After a b) (sym e) (after_across a b before (a ∷ after) (subst (Occurs b) (start before after e long) ((are b).0 x)) (inl refl)))

  others_not : (b : ℕ) → In set b → (In both b → ⊥) → FirstIs (Breaks m) (order a b ∷ []) None
  others_not b has out =
      let (before, after, e, long, none) = last in
      let kept : After a b m → ⊥ = λ h.
      let early = last_after a b before after none (subst (After a b) e h) in
      out (subst (λ n. In n b) (sym same) (both_in met set b ((are b).1 has.0 (subst (Occurs b) (sym (start before after e long)) early)) has)) in
      inr ((λ breaks. breaks kept), refl)

  among : (answer : Option Verdict) → FirstIs (Breaks m) (orders_after a both) answer → FirstIs (Breaks m) (orders_after a set) answer
  among = passed (Breaks m) (λ b. order a b ∷ []) (λ b. order a b ∷ []) set both (λ b h. (in_both met set b (subst (λ n. In n b) same h)).1) (λ b h answer first. first) others_not

  pub orders_none : members both ≡ [] → FirstIs (Breaks m) (orders_after a set) None
  orders_none e = among None (rw e refl)

  pub orders_some : (b : ℕ) (bs : List ℕ) → members both ≡ b ∷ bs → FirstIs (Breaks m) (orders_after a set) (Some ((order a b).verdict))
  orders_some b bs e = among _ (rw e (inl (both_broken b (member_in both b bs e), refl)))

-- how often a symbol occurs breaks its bounds
module _ (s n : ℕ) (bounds : Repeats) (m : Message) (count : n ≡ occurrences s m) where
  pub never_breaks : n ≤ 0 → Breaks m (cardinality s bounds) → ⊥
  never_breaks none breaks = breaks (λ h. let some = counted_some s m h in absurd (omega arith))

  pub outside_bounds : (within : Bool) → 0 < n → Decides within (Between bounds.low bounds.high n) → Decides (not within) (Breaks m (cardinality s bounds))
  outside_bounds true some (f, g) = ((λ e. absurd (false≢true e)), (λ breaks. absurd (breaks (λ h. subst (Between bounds.low bounds.high) count (f refl)))))
  outside_bounds false some (f, g) =
      ((λ e kept. false≢true (g (subst (Between bounds.low bounds.high) (sym count) (kept (some_counted s m (omega arith)))))), (λ breaks. refl))

pub brings_breaks : (t : Tree) (first second : ℕ) (brings : Bool) → Always brings (λ m. Fits t m × HasOneOf first m) (HasOneOf second)
    → Decides (not brings) (SomeBreaks t (co_occurrence first second))
brings_breaks t first second true always = ((λ e. absurd (false≢true e)), (λ (m, fit, breaks). absurd (breaks (λ h. always m (fit, h)))))
brings_breaks t first second false (m, (fit, has), none) = ((λ e. (m, fit, λ kept. none (kept has))), (λ h. refl))

-- the rules about symbols that a message does not have
pub others_kept : (m : Message) (met : ℕ) → SymbolsMet m met → OthersKept (Breaks m) met
others_kept m met are s low out =
    let none : Occurs s m → ⊥ = λ h. out ((are s).1 low h) in
    ((λ bounds breaks. breaks (λ h. absurd (none h))), (λ b breaks. breaks (λ h. none (after_first s b m h))))

-- and about those that no message of a tree has
module _ (t : Tree) (f : Formed t) where
  carried_in : (s : ℕ) (m : Message) → Fits t m → Occurs s m → In (symbols_in t) s
  carried_in s m fit h = (symbols_stand t f s).1 (carried_stands t s (m, fit, h))

  pub others_unbroken : OthersKept (SomeBreaks t) (symbols_in t)
  others_unbroken s low out = (
    (λ bounds (m, fit, breaks). breaks (λ h. absurd (out (carried_in s m fit h)))),
    (λ b (m, fit, breaks). breaks (λ h. out (carried_in s m fit (after_first s b m h)))),
  )

  pub uncarried : (a b : ℕ) → (In (symbols_in t) b → ⊥) → FirstIs (SomeBreaks t) (order a b ∷ []) None
  uncarried a b out = inr ((λ (m, fit, breaks). breaks (λ h. out (carried_in b m fit (after_second a b m h)))), refl)

-- a rule of order is broken exactly where its symbols can stand the other way round
pub reversed_breaks : (t : Tree) (a b : ℕ) (after : Bool) → Decides after (Reverses t a b) → Decides after (SomeBreaks t (order a b))
reversed_breaks t a b after (asked, reversed) = (
  (λ e. let (m, fit, h) = asked e in (m, fit, λ kept. kept h)),
  (λ (m, fit, breaks). elim (cases_Bool after) [ inl e ↦ e | inr e ↦ absurd (breaks (λ h. both_ways after e (reversed (m, fit, h)))) ]),
)
