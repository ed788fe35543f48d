use Rattle.ngc_braking.proofs.WorkLaws.{work_step, work_rises, costs_deduction}
use Rattle.ngc_braking.proofs.laws.work_adds_up.Goals as goal

pub returns-clause-uses : goal.returns-clause-uses
returns-clause-uses c = work_step

pub returns-clause-rises : goal.returns-clause-rises
returns-clause-rises c = work_rises

pub returns-clause-costs : goal.returns-clause-costs
returns-clause-costs c = costs_deduction
