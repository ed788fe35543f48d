use Rattle.std.proofs.Common.{rules}
use Rattle.ngc_circle_walk.proofs.column.ColumnWheelWheel.advance.Goals as goal

pub returns-clause-roll : goal.returns-clause-roll
returns-clause-roll c = search rules
