use Rattle.std.proofs.Common.{arith, ◌-ℤ◌}
use Rattle.std.proofs.lemmas.Int.{ints}
use Rattle.ngc_arc_geometry.proofs.Points.{same_point}
use Rattle.ngc_picture_shapes.proofs.helix.Heading.between_points.Goals as goal

pub returns-clause-value : goal.returns-clause-value
returns-clause-value c =
    same_point _ _ (c.args.end.now.u -ℤ c.args.start.now.u) (c.args.end.now.v -ℤ c.args.start.now.v) (omega (arith, ints)) (omega (arith, ints))
