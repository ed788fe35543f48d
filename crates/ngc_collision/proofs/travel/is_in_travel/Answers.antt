use Rattle.std.proofs.Common.{rules}
use Rattle.ngc_collision.proofs.travel.is_in_travel.Goals as goal

pub returns-then-is_below : goal.returns-then-is_below
returns-then-is_below g c = search rules

pub returns-else-is_below : goal.returns-else-is_below
returns-else-is_below g c = search rules
