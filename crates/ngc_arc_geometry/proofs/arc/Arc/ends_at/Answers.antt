use Rattle.std.proofs.Common.{rules}
use Rattle.ngc_arc_geometry.proofs.arc.Arc.ends_at.Goals as goal

pub returns-then-nanometres : goal.returns-then-nanometres
returns-then-nanometres c = search rules
