use Rattle.std.proofs.Common.{◌≤◌, ◌^◌, arith, unsigned_abs}
use Rattle.ngc_arc_geometry.proofs.Squares.{from_squares}
use Rattle.ngc_fixed_length.proofs.RootLaws.{at_most}
use Rattle.ngc_picture_shapes.proofs.helix.Heading.size.Goals as goal

pub returns-clause-u : goal.returns-clause-u
returns-clause-u c =
    let within = at_most c.square.result (unsigned_abs c.args.self.now.u) c.root_floor.result c.square.ensures.u c.root_floor.ensures.greatest in
    omega (arith, within)

pub returns-clause-v : goal.returns-clause-v
returns-clause-v c =
    let within = at_most c.square.result (unsigned_abs c.args.self.now.v) c.root_floor.result c.square.ensures.v c.root_floor.ensures.greatest in
    omega (arith, within)

pub returns-clause-bound : goal.returns-clause-bound
returns-clause-bound c =
    let small : c.root_floor.result ≤ 10 ^ 13 = from_squares c.root_floor.result (10 ^ 13)
    (omega (arith, c.root_floor.ensures.square, c.square.ensures.bound)) in
    omega (arith, small)
