use Rattle.std.proofs.Common.{arith, ◌-ℤ◌}
use Rattle.std.proofs.lemmas.Int.{ints}
use Rattle.ngc_planner.proofs.Points.{same_point}
use Rattle.ngc_planner.proofs.displacement.Displacement.between.Goals as goal

pub returns : goal.returns
returns c =
    let x = c.args.end.now.x -ℤ c.args.start.now.x in
    let y = c.args.end.now.y -ℤ c.args.start.now.y in
    let z = c.args.end.now.z -ℤ c.args.start.now.z in
    same_point _ _ _ x y z (omega (arith, ints)) (omega (arith, ints)) (omega (arith, ints))
