use Rattle.std.proofs.Common.{◌-◌, arith}
use Rattle.ngc_circle_walk.proofs.Rim.{less_step}
use Rattle.ngc_circle_walk.proofs.square.fall.Goals as goal

pub returns : goal.returns
returns c =
    let e = less_step c.args.step c.args.x (c.args.x - c.args.step) (omega arith) in
    omega arith
