use Rattle.std.proofs.Common.{arith, ◌≤◌}
use Rattle.std.proofs.lemmas.Int.{ints}
use Rattle.ngc_planner.proofs.WindowLaws.{round_small}
use Rattle.ngc_planner.proofs.window.way_round.Goals as goal

pub returns-clause-bound : goal.returns-clause-bound
returns-clause-bound g c =
    let step = c.args.machine.now.step_in_range in
    let least : 500 ≤ c.unsigned_abs-step.result = omega (arith, ints, step.least, c.nanometres.ensures.value, c.unsigned_abs-step.ensures.value) in
    let greatest : c.unsigned_abs-step.result ≤ 50000 = omega (arith, ints, step.least, step.greatest, c.nanometres.ensures.value, c.unsigned_abs-step.ensures.value) in
    let radius : c.max.result ≤ 2000020000 = omega (arith, c.max.ensures, c.inner_radius.ensures.bound, greatest) in
    round_small c.args.turned c.max.result c.unsigned_abs-step.result c.div_ceil.result c.requires radius least greatest c.div_ceil.ensures
