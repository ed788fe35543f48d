use Rattle.ngc_dialect_execution.proofs.SavedSteps.{restored_by}
use Rattle.ngc_dialect_execution.proofs.saving.restore.Goals as goal

pub returns : goal.returns
returns g c = restored_by {X = Unit {0}} _ _ _ _ _ _ _ _ c.restoring-words.ensures c.modes_in.ensures c.restore_words.ensures
