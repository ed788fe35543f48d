use Rattle.std.proofs.Common.{◌≤◌, ◌+◌, ◌-◌, arith}
use Rattle.ngc_braking.proofs.BeyondLaws.{work_small}
use Rattle.ngc_braking.proofs.stretch.slack.Goals as goal

pub overflow_mul-result : goal.overflow_mul-result
overflow_mul-result c =
    let slow : c.args.limit + 1 - c.args.change ≤ 1000000 = omega (arith, c.requires.limit, c.requires.change_least) in
    let small = work_small (c.args.limit + 1 - c.args.change) c.args.change slow c.requires.change_least c.requires.change_greatest in
    rw (c.braking.ensures, c.saturating_sub.ensures) (omega (arith, small))
