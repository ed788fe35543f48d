use Rattle.ngc_program_report.proofs.InsideLaws.{valid_inside}
use Rattle.ngc_program_report.proofs.laws.valid_stays_inside.Goals as goal

pub returns : goal.returns
returns c = valid_inside
