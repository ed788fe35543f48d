use Rattle.ngc_planner.proofs.JointWindowLaws.{keeps_jump_in_window}
use Rattle.ngc_planner.proofs.laws.keeps_jump_in_window.Goals as goal

pub returns : goal.returns
returns c = keeps_jump_in_window
