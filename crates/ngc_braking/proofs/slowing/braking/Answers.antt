use Rattle.std.proofs.Common.{arith}
use Rattle.ngc_braking.proofs.BrakingLaws.{brakes_in, few_ticks}
use Rattle.ngc_braking.proofs.slowing.braking.Goals as goal

pub overflow_mul-result-3 : goal.overflow_mul-result-3
overflow_mul-result-3 c =
    let whole = brakes_in c.args.rate c.args.change c.requires.change_least in
    let few = few_ticks c.args.rate c.args.change c.requires.rate c.requires.change_greatest in
    rw c.saturating_sub.ensures (omega (arith, whole, few))

pub overflow_sub-result : goal.overflow_sub-result
overflow_sub-result c =
    let whole = brakes_in c.args.rate c.args.change c.requires.change_least in
    rw c.saturating_sub.ensures (omega (arith, whole))

pub returns : goal.returns
returns c =
    let whole = brakes_in c.args.rate c.args.change c.requires.change_least in
    rw c.saturating_sub.ensures (omega (arith, whole))
