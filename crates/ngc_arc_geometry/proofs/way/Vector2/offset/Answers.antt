use Rattle.std.proofs.Common.{arith, ◌+ℤ◌}
use Rattle.std.proofs.lemmas.Int.{ints}
use Rattle.ngc_arc_geometry.proofs.Points.{same_point}
use Rattle.ngc_arc_geometry.proofs.way.Vector2.offset.Goals as goal

pub returns-clause-value : goal.returns-clause-value
returns-clause-value c = same_point _ _ (c.args.start.now.u +ℤ c.args.u) (c.args.start.now.v +ℤ c.args.v) (omega (arith, ints)) (omega (arith, ints))
