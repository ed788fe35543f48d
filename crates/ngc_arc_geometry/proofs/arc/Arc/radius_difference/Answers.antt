use Rattle.std.proofs.Common.{◌≤◌, arith}
use Rattle.ngc_arc_geometry.proofs.arc.Arc.radius_difference.Goals as goal

pub returns-clause-bound : goal.returns-clause-bound
returns-clause-bound c =
    let above : c.root_ceil.result ≤ 2000020000 = c.root_ceil.ensures.least 2000020000 c.squared_radii-radii.ensures.bound in
    omega arith
