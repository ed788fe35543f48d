use Rattle.std.proofs.Common.{rules}
use Rattle.ngc_fixed_length.proofs.points.GridBox.holds.Goals as goal

pub returns-then-is_below : goal.returns-then-is_below
returns-then-is_below c = search rules

pub returns-else-is_below : goal.returns-else-is_below
returns-else-is_below c = search rules
