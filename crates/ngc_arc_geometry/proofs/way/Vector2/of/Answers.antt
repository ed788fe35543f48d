use Rattle.std.proofs.Common.{arith}
use Rattle.std.proofs.lemmas.Int.{ints}
use Rattle.ngc_arc_geometry.proofs.Points.{same_point}
use Rattle.ngc_arc_geometry.proofs.way.Vector2.of.Goals as goal

pub returns-clause-value : goal.returns-clause-value
returns-clause-value c = same_point _ _ c.args.point.now.u c.args.point.now.v (omega (arith, ints)) (omega (arith, ints))
