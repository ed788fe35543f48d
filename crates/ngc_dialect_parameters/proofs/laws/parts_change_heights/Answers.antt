use Rattle.ngc_dialect_parameters.specs.Evaluation.{step}
use Rattle.std.proofs.lemmas.Result.{IfOk-weaker}
use Rattle.ngc_dialect_parameters.proofs.Steps.{step_grows}
use Rattle.ngc_dialect_parameters.proofs.laws.parts_change_heights.Goals as goal

pub returns : goal.returns
returns c = λ k text kind s. IfOk-weaker (step k text kind s) _ _ (λ t g. g.stack) (step_grows k text kind s)
