-- What is printed of an answer. Assumes nothing.
use Rattle.std.specs.Prelude.{ℕ, List, ◌++◌, codes}
use Rattle.parts.specs.Refusals.{refusal_said}
use Rattle.rules.specs.Texts.{verdict_said}
use Rattle.set.specs.declared.state.State.{State}
use Rattle.set.specs.declared.state.State.TheVariants.{DrawnUp, Issued}
use Rattle.set.specs.Histories.{Told}
use Rattle.set.specs.Histories.Told.{granted, included, fits, names, refused, not_taken}

abbrev pub state_said : State → List ℕ
state_said DrawnUp = codes "drawn up"
state_said Issued = codes "issued"

abbrev pub told_said : Told → List ℕ
told_said granted = codes "granted"
told_said included = codes "included"
told_said fits = codes "fits"
told_said (names verdict) = verdict_said verdict
told_said (refused n) = refusal_said n
told_said (not_taken state) = codes "not taken, the set is " ++ state_said state
