use Rattle.ngc_planner.proofs.JointWindowLaws.{greatest_of_window}
use Rattle.ngc_planner.proofs.laws.greatest_of_window.Goals as goal

pub returns : goal.returns
returns c = greatest_of_window
