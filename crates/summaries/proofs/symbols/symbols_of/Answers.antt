use Rattle.summaries.proofs.Carried.{standing_are}
use Rattle.models.proofs.Written.{model_sheet}
use Rattle.summaries.proofs.symbols.symbols_of.Goals as goal

pub returns : goal.returns
returns c = record {
  exact = c.work_up.ensures;
  standing = standing_are _ _ (model_sheet c.args.model.now.parts.now c.args.model.now.checked).1 c.work_up.ensures;
}
