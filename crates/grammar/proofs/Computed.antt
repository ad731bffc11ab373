-- The longest start is computed, and whether bytes are a text. Assumes nothing.
use Rattle.std.proofs.Common.{◌≡◌, ℕ, suc, ◌+◌, ◌<◌, Bool, true, false, List, [], ◌∷◌, ◌++◌, length, take, Some, None, Option, IsSome, is_some, sym, refl, ap, ◌∙◌, subst, arith, length-append}
use Rattle.std.proofs.lemmas.List.{append_assoc, append-nil}
use Rattle.std.proofs.lemmas.Bool.{false≢true}
use Rattle.std.proofs.Math.Seq.{take-append_seam}
use Rattle.grammar.specs.Declarations.{Declaration}
use Rattle.grammar.specs.Machine.{Spot, Phase, feed, feeds, first, Stops, stop_from, stop_of, is_outside, is_end, Computed}
use Rattle.grammar.specs.Machine.Spot.{outside}
use Rattle.grammar.specs.Machine.Phase.{at}
use Rattle.grammar.proofs.Text.{sound, complete}
use Rattle.grammar.proofs.Fed.{feeds_on}
use Rattle.grammar.proofs.Places.{stops_there}

pub stops_from : (bs p : List ℕ) (φ : Phase) → feeds p first ≡ Some φ → Stops (p ++ bs) (stop_from bs φ (length p))
stops_from [] p φ e = (omega (arith, length-append p []), kept, λ less. absurd (more less))
  where
    kept : IsSome (feeds (take (length p) (p ++ [])) first)
    kept = ap (λ x. is_some (feeds x first)) (take-append_seam p []) ∙ ap is_some e

    more : length p < length (p ++ []) → ⊥
    more less =
        let size : length (p ++ []) ≡ length p = ap length (append-nil p) in
        omega arith
stops_from (b ∷ bs) p φ e = went (λ ψ k. stops_from bs (p ++ (b ∷ [])) ψ k) (feed φ b) refl
  where
    on : feeds (p ++ (b ∷ [])) first ≡ feed φ b
    on = feeds_on p (b ∷ []) first ∙ ap (feeds (b ∷ [])) e

    whole : (p ++ (b ∷ [])) ++ bs ≡ p ++ (b ∷ bs)
    whole = append_assoc p (b ∷ []) bs

    size : length (p ++ (b ∷ [])) ≡ length p + 1
    size = length-append p (b ∷ [])

    went : ((ψ : Phase) → feeds (p ++ (b ∷ [])) first ≡ Some ψ → Stops ((p ++ (b ∷ [])) ++ bs) (stop_from bs ψ (length (p ++ (b ∷ [])))))
        → (o : Option Phase) → feed φ b ≡ o → Stops (p ++ (b ∷ bs)) (elim o [ None ↦ length p | Some ψ ↦ stop_from bs ψ (length p + 1) ])
    went others None k =
        let long : length (p ++ (b ∷ bs)) ≡ length p + length (b ∷ bs) = length-append p (b ∷ bs) in
        let one : suc (length p) ≡ length (p ++ (b ∷ [])) = omega (arith, size) in
        let cut : take (suc (length p)) (p ++ (b ∷ bs)) ≡ p ++ (b ∷ []) =
        ap (λ n. take n (p ++ (b ∷ bs))) one ∙ ap (take (length (p ++ (b ∷ [])))) (sym whole) ∙ take-append_seam (p ++ (b ∷ [])) bs in (
          omega arith,
          ap (λ x. is_some (feeds x first)) (take-append_seam p (b ∷ bs)) ∙ ap is_some e,
          λ less. ap (λ x. feeds x first) cut ∙ on ∙ k,
        )
    went others (Some ψ) k =
        subst (λ n. Stops (p ++ (b ∷ bs)) (stop_from bs ψ n)) size (subst (λ x. Stops x (stop_from bs ψ (length (p ++ (b ∷ []))))) whole (others ψ (on ∙ k)))

abbrev pub Ended : Option Phase → Type 0
Ended o = (ds : List Declaration) × (g : Bool) × (o ≡ Some (at (outside ds) g))

spot_ended : (σ : Spot) (g : Bool) → is_outside σ ≡ true → Ended (Some (at σ g))
spot_ended (outside ds) g e = (ds, g, refl)
spot_ended σ g e = absurd (false≢true e)

phase_ended : (φ : Phase) → is_end φ ≡ true → Ended (Some φ)
phase_ended (at σ g) e = spot_ended σ g e
phase_ended φ e = absurd (false≢true e)

pub run_ended : (o : Option Phase) → elim o [ None ↦ false | Some φ ↦ is_end φ ] ≡ true → Ended o
run_ended None e = absurd (false≢true e)
run_ended (Some φ) e = phase_ended φ e

pub computed : Computed
computed bytes = (
  (stops_there bytes (stop_of bytes)).0 (stops_from bytes [] (at (outside []) false) refl),
  (λ e.
      let (ds, g, k) = run_ended (feeds bytes first) e in
      (ds, sound bytes ds (g, k))),
  (λ ds t.
      let (g, k) = complete bytes ds t in
      ap (λ o. elim o [ None ↦ false | Some φ ↦ is_end φ ]) k),
)
