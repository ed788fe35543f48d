use Rattle.ngc_report.proofs.ShiftLaws.{tells_law, clears_law, printed_law}
use Rattle.ngc_report.proofs.laws.shift_clears.Goals as goal

pub returns-clause-tells : goal.returns-clause-tells
returns-clause-tells c = tells_law

pub returns-clause-clears : goal.returns-clause-clears
returns-clause-clears c = clears_law

pub returns-clause-printed : goal.returns-clause-printed
returns-clause-printed c = printed_law
