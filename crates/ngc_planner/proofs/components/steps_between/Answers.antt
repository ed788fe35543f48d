use Rattle.std.proofs.Common.{◌≡◌, arith}
use Rattle.std.proofs.lemmas.Int.{ints}
use Rattle.ngc_fixed_length.specs.Grid.{distance}
use Rattle.ngc_planner.proofs.components.steps_between.Goals as goal

pub returns : goal.returns
returns c =
    let x : c.abs_diff.result ≡ distance c.args.start.now.x c.args.end.now.x = omega (arith, ints, c.abs_diff.ensures) in
    let y : c.abs_diff-2.result ≡ distance c.args.start.now.y c.args.end.now.y = omega (arith, ints, c.abs_diff-2.ensures) in
    let z : c.abs_diff-3.result ≡ distance c.args.start.now.z c.args.end.now.z = omega (arith, ints, c.abs_diff-3.ensures) in
    rw (x, y, z)
