use Rattle.std.proofs.Common.{arith, ap, ◌-ℤ◌}
use Rattle.std.proofs.lemmas.Int.{ints}
use Rattle.ngc_fixed_length.specs.declared.points.Point2.{Point2}
use Rattle.ngc_arc_geometry.proofs.Points.{same_point}
use Rattle.ngc_arc_geometry.proofs.way.Vector2.to.Goals as goal

pub returns : goal.returns
returns c =
    let u = ap (λ (p : Point2). p.u) c.self.view_is in
    let v = ap (λ (p : Point2). p.v) c.self.view_is in
    same_point _ _ (c.args.end.now.u -ℤ c.args.self.now.u) (c.args.end.now.v -ℤ c.args.self.now.v) (omega (arith, ints, u)) (omega (arith, ints, v))
