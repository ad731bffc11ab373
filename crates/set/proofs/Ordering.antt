-- The order rules of one symbol, from the set of those that it may not come after. Assumes nothing.
use Rattle.std.proofs.Common.{◌≡◌, ℕ, Bool, true, false, [], ◌∷◌, Option, sym, refl, subst, inl, inr, ⊎_elim, arith, None}
use Rattle.std.proofs.lemmas.Bool.{cases_Bool}
use Rattle.parts.specs.Sets.{In, members}
use Rattle.models.specs.Conflicts.{ConflictFree}
use Rattle.models.specs.Messages.{Occurs}
use Rattle.models.specs.Trees.{Tree, Stands, Formed}
use Rattle.rules.specs.Rules.{Rule, FirstIs}
use Rattle.rules.specs.declared.verdict.Verdict.{Verdict}
use Rattle.set.specs.Five.{ascending, when, order, order_rules_from}
use Rattle.set.specs.Holding.{symbols_in}
use Rattle.set.specs.Ordering.{OthersAre}
use Rattle.set.specs.Precedence.{ordered}
use Rattle.set.specs.Subjects.{orders_after}
use Rattle.set.proofs.Holding.{symbols_stand}
use Rattle.set.proofs.Lists.{listed_below}
use Rattle.set.proofs.Skipping.{none_each, passed}

-- the rules of the pairs that begin with a, of any that it may not come after
pub from_others : (P : Rule → Type 0) (a : ℕ) (t : Tree) (others : ℕ) → Formed t → Stands t a → OthersAre a t others
    → (answer : Option Verdict) → FirstIs P (orders_after a others) answer → FirstIs P (order_rules_from a t) answer
from_others P a t others f here are = passed P (λ b. when (ordered a b t) (order a b)) (λ b. order a b ∷ []) (symbols_in t) others
    (λ b h. (symbols_stand t f b).1 ((are b).0 h).1)
    (λ b h answer first. rw ((are b).0 h).2 first)
    (λ b h out.
    let not_so : ordered a b t ≡ false = ⊎_elim (λ e. absurd (out ((are b).1 (here, (symbols_stand t f b).0 h, e)))) (λ e. e) (cases_Bool (ordered a b t)) in
    rw not_so refl)

-- a symbol that a subject does not have comes after none
pub no_orders : (P : Rule → Type 0) (a : ℕ) (t : Tree) → ((b : ℕ) → P (order a b) → ⊥) → FirstIs P (order_rules_from a t) None
no_orders P a t kept = none_each P (λ b. when (ordered a b t) (order a b)) (ascending t) (λ b. one (ordered a b t) b)
  where
    one : (test : Bool) (b : ℕ) → FirstIs P (when test (order a b)) None
    one true b = inr (kept b, refl)
    one false b = refl

-- each symbol of the set stands in the tree
abbrev pub Standing : Tree → ℕ → Type 0
Standing t set = (s : ℕ) → Occurs s (members set) → Stands t s

pub standing_within : (t : Tree) (set : ℕ) → Formed t → ((s : ℕ) → In set s → In (symbols_in t) s) → Standing t set
standing_within t set f within s h = let (low, bit) = listed_below set 64 s h in (symbols_stand t f s).0 (within s (omega arith, bit))

module _ (t : Tree) (old new s : ℕ) (standing : Standing t old) (taken : members old ≡ s ∷ members new) where
  pub standing_first : Stands t s
  standing_first = standing s (subst (Occurs s) (sym taken) (inl refl))

  pub standing_rest : Standing t new
  standing_rest x h = standing x (subst (Occurs x) (sym taken) (inr h))

  -- what is answered of the first symbol's rules
  pub asked_from : (P : Rule → Type 0) (others : ℕ) (answer : Option Verdict) → Formed t → ConflictFree t → (ConflictFree t → OthersAre s t others)
      → FirstIs P (orders_after s others) answer → FirstIs P (order_rules_from s t) answer
  asked_from P others answer f free are = from_others P s t others f standing_first (are free) answer
