-- Texts are read exactly, and a start is kept exactly while some text begins so. Assumes nothing.
use Rattle.std.proofs.Common.{◌≡◌, ℕ, Bool, false, List, [], ◌++◌, Some, None, Option, IsSome, is_some, sym, refl, ap, ◌∙◌, subst}
use Rattle.std.proofs.lemmas.Bool.{false≢true}
use Rattle.grammar.specs.Bytes.{pieces}
use Rattle.grammar.specs.Notations.Notation.{dtd}
use Rattle.grammar.specs.Declarations.{Declaration, IsText, signs_of, written}
use Rattle.grammar.specs.Declarations.Sign.{ends}
use Rattle.grammar.specs.Faults.{Begins}
use Rattle.grammar.specs.Machine.{Spot, goes, Phase, feeds, first, Accepts, Complete, Sound, OneReading, Completion, Viable}
use Rattle.grammar.specs.Machine.Spot.{outside}
use Rattle.grammar.specs.Machine.Phase.{at}
use Rattle.grammar.proofs.Signs.{SignsFit, all_go, all_fit, fit_all}
use Rattle.grammar.proofs.Spelt.{Spelt, Leads, feeds_lead, start_spelt, feeds_none}
use Rattle.grammar.proofs.Fed.{feeds_on, pieces_fed, tokens_fed, outside_at, Ending, ending}

-- one run behind another
joined : (xs ys : List ℕ) (φ ψ χ : Option Phase) → feeds xs φ ≡ ψ → feeds ys ψ ≡ χ → feeds (xs ++ ys) φ ≡ χ
joined xs ys φ ψ χ e k = feeds_on xs ys φ ∙ ap (feeds ys) e ∙ k

pub complete : Complete
complete bytes ds (ts, last, (read, fits, are), (ps, arep, is), e) =
    let ran : goes (signs_of ts) (Some (outside [])) ≡ Some (outside ds) = ap (λ ss. goes ss (Some (outside []))) read ∙ all_go ds [] are in
    let (ψ, fed, stands) = tokens_fed ts ends (at (outside []) false) (outside []) (outside ds) fits refl tt
    (subst SignsFit (sym read) (all_fit ds are)) (refl, refl) ran in
    let (χ, h, on, stays) = pieces_fed ps ds ψ false stands arep in
    let (g, out) = outside_at χ ds h stays in (
      g,
      subst (λ xs. feeds xs first ≡ Some (at (outside ds) g)) (sym (e ∙ ap (λ xs. written dtd ts ++ xs) is))
          (joined (written dtd ts) (pieces ps) first (Some ψ) (Some (at (outside ds) g)) fed (on ∙ out)),
    )

pub led : (bytes : List ℕ) (o : Option Phase) → feeds bytes first ≡ o → Leads bytes o
led bytes o e = subst (Leads bytes) e (feeds_lead bytes [] first start_spelt)

spelt_text : (bytes : List ℕ) (ds : List Declaration) (g : Bool) → Spelt bytes (at (outside ds) g) → IsText dtd bytes ds
spelt_text bytes ds g (ts, gap, (good, read, fits, are, last), h, t, w) =
    (ts, gap, (read, fits, fit_all ds good (subst SignsFit read are)), h, w)

pub sound : Sound
sound bytes ds (g, e) = spelt_text bytes ds g (led bytes (Some (at (outside ds) g)) e)

abbrev of_spot : Spot → List Declaration → List Declaration
of_spot (outside es) ds = es
of_spot σ ds = ds

abbrev declarations_of : Phase → List Declaration → List Declaration
declarations_of (at σ g) ds = of_spot σ ds
declarations_of φ ds = ds

pub one_reading : OneReading
one_reading bytes ds es h k =
    let (g, d) = complete bytes ds h in
    let (i, e) = complete bytes es k in
    ap (λ x. elim x [ None ↦ ds | Some φ ↦ declarations_of φ ds ]) (sym d ∙ e)

ended_start : (start : List ℕ) (φ : Phase) → feeds start first ≡ Some φ → Ending φ → (more : List ℕ) × (ds : List Declaration) × Accepts (start ++ more) ds
ended_start start φ e (more, ds, g, k) = (more, ds, (g, feeds_on start more first ∙ ap (feeds more) e ∙ k))

pub completion : Completion
completion start φ e = ended_start start φ e (ending φ start (led start (Some φ) e))

pub some_fed : (bs : List ℕ) (o : Option Phase) (ψ : Phase) → feeds bs o ≡ Some ψ → IsSome o
some_fed bs None ψ e = ap is_some (sym (feeds_none bs) ∙ e)
some_fed bs (Some φ) ψ e = refl

kept : (start : List ℕ) (o : Option Phase) → feeds start first ≡ o → IsSome o → Begins dtd start
kept start None e h = absurd (false≢true h)
kept start (Some φ) e h = let (more, ds, a) = completion start φ e in (more, ds, sound (start ++ more) ds a)

pub viable : Viable
viable start = (
  (λ (more, ds, h).
      let (g, e) = complete (start ++ more) ds h in
      some_fed more (feeds start first) (at (outside ds) g) (sym (feeds_on start more first) ∙ e)),
  (λ h. kept start (feeds start first) refl h),
)
