-- What a call asks of a set, and what an answer tells. Assumes nothing.
use Rattle.std.specs.Prelude.{List, [], Some, None, Option}
use Rattle.std.specs.Borrow.{Bor}
use Rattle.parts.specs.Refusals.{notice}
use Rattle.rules.specs.Rules.{Rule}
use Rattle.set.specs.Histories.{Asked, Told}
use Rattle.set.specs.Histories.Asked.{declare, withdraw, issue, recall, compare, judge}
use Rattle.set.specs.Histories.Told.{granted, included, fits, names, refused, not_taken}
use Rattle.seasons.specs.declared.call.Call.{Call}
use Rattle.seasons.specs.declared.call.Call.TheVariants.{Issue, Recall, Declare, Withdraw, Compare, Judge}
use Rattle.seasons.specs.declared.answer.Answer.{Answer}
use Rattle.seasons.specs.declared.answer.Answer.TheVariants.{Granted, Included, Fits, Breaks, Refused, NotTaken}

abbrev pub asked : {F : Type 0} → Call F → Asked
asked Issue = issue
asked Recall = recall
asked (Declare number parts) = declare number parts.now
asked (Withdraw number) = withdraw number
asked (Compare sent expected family) = compare sent expected
asked (Judge number message) = judge number message.now

-- the rules of the family that is hung behind, if one is, by what the rules of a family are
abbrev pub hung : {F : Type 0} → (F → List Rule) → Option (Bor F) → List Rule
hung rules None = []
hung rules (Some family) = rules family.now

-- those hung behind a call
abbrev pub behind : {F : Type 0} → (F → List Rule) → Call F → List Rule
behind rules Issue = []
behind rules Recall = []
behind rules (Declare number parts) = []
behind rules (Withdraw number) = []
behind rules (Compare sent expected family) = hung rules family
behind rules (Judge number message) = []

abbrev pub told : Answer → Told
told Granted = granted
told Included = included
told Fits = fits
told (Breaks verdict) = names verdict
told (Refused refusal) = refused (notice refusal)
told (NotTaken state) = not_taken state
