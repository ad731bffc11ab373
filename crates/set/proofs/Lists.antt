-- Lists of rules, kept and unbroken. Assumes nothing.
use Rattle.std.proofs.Common.{◌≡◌, ℕ, zero, suc, ◌/◌, ◌%◌, ◌^◌, ◌<◌, Bool, true, false, cond, eqb, List, [], ◌∷◌, ◌++◌, None, sym, refl, subst, inl, inr, ⊎_elim, arith}
use Rattle.std.proofs.lemmas.Bool.{cases_eq, cond-true, eqb-true, eq-eqb, false≢true, true≢false}
use Rattle.models.specs.Messages.{Message, Occurs}
use Rattle.models.specs.Trees.{Tree, Stands, Formed}
use Rattle.models.proofs.Occurrences.{Occurs-append, occurs_left, occurs_right}
use Rattle.models.proofs.Unlike.{some-none}
use Rattle.parts.specs.Sets.{symbols_below}
use Rattle.rules.specs.Rules.{Rule, KeepsAll, Breaks, FirstIs}
use Rattle.set.specs.Five.{for_each, ascending, unless, when}
use Rattle.set.specs.Holding.{symbols_in}
use Rattle.set.proofs.Holding.{symbols_stand}

module _ (m : Message) where
  pub KeepsAll-append : (xs ys : List Rule) → KeepsAll (xs ++ ys) m → KeepsAll xs m × KeepsAll ys m
  KeepsAll-append [] ys h = (tt, h)
  KeepsAll-append (x ∷ xs) ys (k, h) = let (f, g) = KeepsAll-append xs ys h in ((k, f), g)

  pub keeps_append : (xs ys : List Rule) → KeepsAll xs m → KeepsAll ys m → KeepsAll (xs ++ ys) m
  keeps_append [] ys f g = g
  keeps_append (x ∷ xs) ys f g = (f.0, keeps_append xs ys f.1 g)

  pub KeepsAll-unless : (b : Bool) (rule : Rule) → KeepsAll (unless b rule) m → b ≡ false → rule.keeps m
  KeepsAll-unless true rule h e = absurd (true≢false e)
  KeepsAll-unless false rule h e = h.0

  pub keeps_unless : (b : Bool) (rule : Rule) → (b ≡ false → rule.keeps m) → KeepsAll (unless b rule) m
  keeps_unless true rule h = tt
  keeps_unless false rule h = (h refl, tt)

  pub KeepsAll-when : (b : Bool) (rule : Rule) → KeepsAll (when b rule) m → b ≡ true → rule.keeps m
  KeepsAll-when true rule h e = h.0
  KeepsAll-when false rule h e = absurd (false≢true e)

  pub keeps_when : (b : Bool) (rule : Rule) → (b ≡ true → rule.keeps m) → KeepsAll (when b rule) m
  keeps_when true rule h = (h refl, tt)
  keeps_when false rule h = tt

  -- a list of symbols is read as a message is
  KeepsAll-for_each : (ss : List ℕ) (rules : ℕ → List Rule) → KeepsAll (for_each ss rules) m → (s : ℕ) → Occurs s ss → KeepsAll (rules s) m
  KeepsAll-for_each [] rules h = λ s i. absurd i
  KeepsAll-for_each (x ∷ ss) rules h = λ s i.
      let (f, g) = KeepsAll-append (rules x) (for_each ss rules) h in
      ⊎_elim (λ e. subst (λ y. KeepsAll (rules y) m) e f) (KeepsAll-for_each ss rules g s) i

  keeps_for_each : (ss : List ℕ) (rules : ℕ → List Rule) → ((s : ℕ) → Occurs s ss → KeepsAll (rules s) m) → KeepsAll (for_each ss rules) m
  keeps_for_each [] rules h = tt
  keeps_for_each (x ∷ ss) rules h = keeps_append (rules x) (for_each ss rules) (h x (inl refl)) (keeps_for_each ss rules (λ s i. h s (inr i)))

-- the symbols below n that are listed of a set are those of the set
module _ (set : ℕ) where
  one_listed : (b : Bool) (n s : ℕ) → Occurs s (cond b (n ∷ []) []) → (b ≡ true) × (n ≡ s)
  one_listed true n s (inl e) = (refl, e)
  one_listed true n s (inr h) = absurd h
  one_listed false n s h = absurd h

  pub listed_below : (n s : ℕ) → Occurs s (symbols_below n set) → (s < n) × ((set / 2 ^ s) % 2 ≡ 1)
  unfolding symbols_below
  listed_below zero s h = absurd h
  listed_below (suc n) s h =
      elim (Occurs-append s (symbols_below n set) _ h) [
        | inl z ↦ let (low, bit) = listed_below n s z in (omega arith, bit)
        | inr z ↦
            let (bit, e) = one_listed (eqb ((set / 2 ^ n) % 2) 1) n s z in
            (omega arith, subst (λ k. (set / 2 ^ k) % 2 ≡ 1) e (eqb-true ((set / 2 ^ n) % 2) 1 bit))
      ]

  below_listed : (n s : ℕ) → s < n → (set / 2 ^ s) % 2 ≡ 1 → Occurs s (symbols_below n set)
  unfolding symbols_below
  below_listed zero s low bit = absurd (omega arith)
  below_listed (suc n) s low bit =
      elim (cases_eq n s) [
        | inl e ↦
            occurs_right s (symbols_below n set) _
            (subst (Occurs s) (sym (cond-true _ (n ∷ []) [] (eq-eqb _ 1 (subst (λ k. (set / 2 ^ k) % 2 ≡ 1) (sym e) bit)))) (inl e))
        | inr ne ↦ occurs_left s (symbols_below n set) _ (below_listed n s (omega arith) bit)
      ]

-- so what is asked for each symbol that is listed is asked for each that stands in the tree
module _ (m : Message) (t : Tree) (f : Formed t) (rules : ℕ → List Rule) where
  pub KeepsAll-standing : KeepsAll (for_each (ascending t) rules) m → (s : ℕ) → Stands t s → KeepsAll (rules s) m
  KeepsAll-standing h s p =
      let (low, bit) = (symbols_stand t f s).1 p in
      KeepsAll-for_each m (ascending t) rules h s (below_listed (symbols_in t) 64 s (omega arith) bit)

  pub keeps_standing : ((s : ℕ) → Stands t s → KeepsAll (rules s) m) → KeepsAll (for_each (ascending t) rules) m
  keeps_standing h = keeps_for_each m (ascending t) rules (λ s i.
      let (low, bit) = listed_below (symbols_in t) 64 s i in
      h s ((symbols_stand t f s).0 (omega arith, bit)))

-- P holds of the rules that some message of S breaks
module _ (S : Message → Type 0) (P : Rule → Type 0) where
  -- where it holds of no rule of a list, no message of S can be shown not to keep them all
  pub none_broken : ((rule : Rule) (m : Message) → S m → Breaks m rule → P rule) → (rules : List Rule) → FirstIs P rules None
      → (m : Message) → S m → (KeepsAll rules m → ⊥) → ⊥
  none_broken holds [] h = λ m s fails. fails tt
  none_broken holds (x ∷ rules) (inl (p, e)) = absurd (some-none x.verdict (sym e))
  none_broken holds (x ∷ rules) (inr (unbroken, h)) = λ m s fails.
      unbroken (holds x m s (λ k. none_broken holds rules h m s (λ ks. fails (k, ks))))

  pub all_kept : ((rule : Rule) → P rule → (m : Message) × S m × Breaks m rule) → (rules : List Rule) → ((m : Message) → S m → KeepsAll rules m) → FirstIs P rules None
  all_kept broken [] h = refl
  all_kept broken (x ∷ rules) h = inr ((λ p. let (m, s, b) = broken x p in b (h m s).0), all_kept broken rules (λ m s. (h m s).1))
