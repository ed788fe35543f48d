use Rattle.ngc_report.proofs.ShiftLaws.{inside_law}
use Rattle.ngc_report.proofs.laws.shift_stays_inside.Goals as goal

pub returns : goal.returns
returns c = inside_law
