-- When every finding counted is that a model is included. Assumes nothing.
use Rattle.std.proofs.Common.{◌≡◌, ℕ, ◌+◌, Bool, true, false, List, [], ◌∷◌, sym, refl, ap, ◌∙◌, subst, arith, All}
use Rattle.std.specs.Prelude.{fold, ◌==◌, ◌&&◌, ◌↔◌}
use Rattle.std.proofs.lemmas.Bool.{false≢true}
use Rattle.std.proofs.lemmas.Bool.Decides.{nat_tests}
use Rattle.std.proofs.lemmas.List.Elements.{All-nil, All-cons, All-head, All-tail}
use Rattle.report.specs.declared.finding.Finding.{Finding}
use Rattle.report.specs.declared.finding.Finding.TheVariants.{Included, Breaks, Conflict, Alone}
use Rattle.report.specs.declared.tally.Tally.{Tally}
use Rattle.report.specs.Tallies.{tally_with, tally_of, no_tally, all_included, AllIncludedExactly}

-- one more is not none
more : (n : ℕ) → (n + 1 == 0) ≡ false
more n = grind (arith, nat_tests)

second : (a b : Bool) → b ≡ false → (a && b) ≡ false
second true b h = h
second false b h = refl

first : (a b : Bool) → a ≡ false → (a && b) ≡ false
first true b h = absurd (false≢true (sym h))
first false b h = refl

from_all : (fs : List Finding) (t : Tally) → all_included (fold tally_with t fs) ≡ true → (all_included t ≡ true) × All (λ f. f ≡ Included) fs
from_all [] t h = (h, All-nil _)
from_all (Included ∷ fs) t h = let r = from_all fs (tally_with t Included) h in (r.0, All-cons (λ f. f ≡ Included) Included fs refl r.1)
from_all (Breaks v ∷ fs) t h = let r = from_all fs (tally_with t (Breaks v)) h in absurd (false≢true (sym (first (t.broken + 1 == 0) _ (more t.broken)) ∙ r.0))
from_all (Conflict name part ∷ fs) t h =
    let r = from_all fs (tally_with t (Conflict name part)) h in
    absurd (false≢true (sym (second (t.broken == 0) _ (first (t.conflicts + 1 == 0) _ (more t.conflicts))) ∙ r.0))
from_all (Alone ∷ fs) t h =
    let r = from_all fs (tally_with t Alone) h in absurd (false≢true (sym (second (t.broken == 0) _ (second (t.conflicts == 0) _ (more t.alone))) ∙ r.0))

to_all : (fs : List Finding) (t : Tally) → all_included t ≡ true → All (λ f. f ≡ Included) fs → all_included (fold tally_with t fs) ≡ true
to_all [] t h a = h
to_all (f ∷ fs) t h a = to_all fs (tally_with t f) (subst (λ g. all_included (tally_with t g) ≡ true) (sym (All-head (λ g. g ≡ Included) f fs a)) h) (All-tail (λ g. g ≡ Included) f fs a)

pub all_included_exactly : AllIncludedExactly
all_included_exactly fs = (λ h. (from_all fs no_tally h).1, λ a. to_all fs no_tally refl a)
