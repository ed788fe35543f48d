use Rattle.std.proofs.Common.{arith, ◌-ℤ◌}
use Rattle.std.proofs.lemmas.Int.{ints}
use Rattle.ngc_arc_geometry.proofs.Points.{same_point}
use Rattle.ngc_material.proofs.spoke.Spoke.to.Goals as goal

pub returns-then-unsigned_abs-le2400000000-2 : goal.returns-then-unsigned_abs-le2400000000-2
returns-then-unsigned_abs-le2400000000-2 c =
    same_point _ _ (c.args.point.now.u -ℤ c.args.centre.now.u) (c.args.point.now.v -ℤ c.args.centre.now.v) (omega (arith, ints)) (omega (arith, ints))
