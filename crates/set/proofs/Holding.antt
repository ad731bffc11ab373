-- What a tree holds, as values and as facts. Assumes nothing.
use Rattle.std.proofs.Common.{◌≡◌, ℕ, Bool, true, false, ◌⊎◌, [], Decides, sym, refl, inl, inr, ⊎_elim, subst}
use lib.Bits.{bit_or}
use Rattle.std.proofs.lemmas.Bool.{false≢true, false_from_ne_true}
use Rattle.std.proofs.lemmas.Bool.Decides.{Decides-eqb, Decides-or, same_from_decides}
use Rattle.models.specs.Messages.{Message, Occurs}
use Rattle.models.specs.Trees.{Tree, Fits, Stands, Formed}
use Rattle.models.specs.Trees.Tree.{empty, symbol, choice, sequence, interleave, count, nonempty}
use Rattle.models.proofs.Unlike.{cons-nil}
use Rattle.parts.specs.Sets.{In, only}
use Rattle.parts.proofs.SymbolSets.{in_left, in_right, in_either, in_only, only_in, in_none}
use Rattle.summaries.specs.SymbolsOf.{StandingAre}
use Rattle.summaries.proofs.Carried.{carried_stands}
use Rattle.summaries.proofs.Empties.{sequence_empty, interleave_empty, count_empty}
use Rattle.set.specs.Holding.{holds, symbols_in, takes_empty}

pub holds_stands : (t : Tree) (s : ℕ) → Decides (holds s t) (Stands t s)
holds_stands empty s = ((λ h. absurd (false≢true h)), (λ h. absurd h))
holds_stands (symbol x) s = Decides-eqb x s
holds_stands (choice l r) s = Decides-or (holds s l) (holds s r) (holds_stands l s) (holds_stands r s)
holds_stands (sequence l r) s = Decides-or (holds s l) (holds s r) (holds_stands l s) (holds_stands r s)
holds_stands (interleave l r) s = Decides-or (holds s l) (holds s r) (holds_stands l s) (holds_stands r s)
holds_stands (count t low high) s = holds_stands t s
holds_stands (nonempty t) s = holds_stands t s

pub stands_holds : (t : Tree) (s : ℕ) → Stands t s → holds s t ≡ true
stands_holds t s h = (holds_stands t s).1 h

pub holds_not : (t : Tree) (s : ℕ) → (Stands t s → ⊥) → holds s t ≡ false
holds_not t s none = false_from_ne_true (holds s t) (λ e. none ((holds_stands t s).0 e))

united : (l r : Tree) → StandingAre l (symbols_in l) → StandingAre r (symbols_in r) → (s : ℕ) → (In (bit_or (symbols_in l) (symbols_in r)) s → Stands l s ⊎ Stands r s) × (Stands l s ⊎ Stands r s → In (bit_or (symbols_in l) (symbols_in r)) s)
united l r f g s = (
  (λ h. ⊎_elim (λ z. inl ((f s).0 z)) (λ z. inr ((g s).0 z)) (in_either (symbols_in l) (symbols_in r) s h)),
  (λ h. ⊎_elim (λ z. in_left (symbols_in l) (symbols_in r) s ((f s).1 z)) (λ z. in_right (symbols_in l) (symbols_in r) s ((g s).1 z)) h),
)

-- the symbols of the set are those that stand in the tree
pub symbols_stand : (t : Tree) → Formed t → StandingAre t (symbols_in t)
symbols_stand empty f = λ s. ((λ h. in_none s h), (λ h. absurd h))
symbols_stand (symbol x) f = λ s. ((λ h. in_only x s h), (λ h. subst (In (only x)) h (only_in x f)))
symbols_stand (choice l r) f = united l r (symbols_stand l f.0) (symbols_stand r f.1)
symbols_stand (sequence l r) f = united l r (symbols_stand l f.0) (symbols_stand r f.1)
symbols_stand (interleave l r) f = united l r (symbols_stand l f.0) (symbols_stand r f.1)
symbols_stand (count t low high) f = symbols_stand t f.0
symbols_stand (nonempty t) f = symbols_stand t f.0

pub empty_taken : (t : Tree) → Formed t → Decides (takes_empty t) (Fits t [])
empty_taken empty f = ((λ h. refl), (λ h. refl))
empty_taken (symbol s) f = ((λ h. absurd (false≢true h)), (λ h. absurd (cons-nil s [] (sym h))))
empty_taken (choice l r) f = Decides-or (takes_empty l) (takes_empty r) (empty_taken l f.0) (empty_taken r f.1)
empty_taken (sequence l r) f = sequence_empty (takes_empty l) (takes_empty r) l r (empty_taken l f.0) (empty_taken r f.1)
empty_taken (interleave l r) f = interleave_empty (takes_empty l) (takes_empty r) l r (empty_taken l f.0) (empty_taken r f.1)
empty_taken (count t low high) f = count_empty (takes_empty t) t low high f.1 (empty_taken t f.0)
empty_taken (nonempty t) f = ((λ h. absurd (false≢true h)), (λ h. absurd (h.1 refl)))

pub takes_empty_is : (t : Tree) (v : Bool) → Formed t → Decides v (Fits t []) → takes_empty t ≡ v
takes_empty_is t v f d = sym (same_from_decides v (takes_empty t) d ((λ e. (empty_taken t f).0 e), (λ h. (empty_taken t f).1 h)))

-- each symbol of the message stands in the tree
abbrev pub Within : Tree → Message → Type 0
Within t m = (s : ℕ) → Occurs s m → Stands t s

pub fits_within : (t : Tree) (m : Message) → Fits t m → Within t m
fits_within t m f s h = carried_stands t s (m, f, h)
