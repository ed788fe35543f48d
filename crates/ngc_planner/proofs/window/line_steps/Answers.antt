use Rattle.std.proofs.Common.{arith}
use Rattle.ngc_planner.proofs.WindowLaws.{apart}
use Rattle.ngc_planner.proofs.window.line_steps.Goals as goal

pub returns-clause-bound : goal.returns-clause-bound
returns-clause-bound g c =
    let far = apart c.to_grid-from.result c.to_grid-to.result c.to_grid-from.ensures.range c.to_grid-to.ensures.range in
    omega (arith, far, c.greatest_distance.ensures, c.from.ensures)
