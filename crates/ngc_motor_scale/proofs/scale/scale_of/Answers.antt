use Rattle.ngc_motor_scale.proofs.Terms.{some_divisor, some_quotient, least_quotient, greatest_quotient, lowest, same_ratio}
use Rattle.ngc_motor_scale.proofs.scale.scale_of.Goals as goal

pub nonzero_div-nanometres : goal.nonzero_div-nanometres
nonzero_div-nanometres c = some_divisor c.args.step.now.nanometres c.args.step.now.steps c.common_divisor-divisor.result (c.is_short.ensures.some c.if-is_short.false) c.common_divisor-divisor.ensures.greatest

pub nonzero_div-step : goal.nonzero_div-step
nonzero_div-step c = some_divisor c.args.step.now.nanometres c.args.step.now.steps c.common_divisor-divisor.result (c.is_short.ensures.some c.if-is_short.false) c.common_divisor-divisor.ensures.greatest

pub step_with-requires-clause-some : goal.step_with-requires-clause-some
step_with-requires-clause-some c = some_quotient c.args.step.now.nanometres c.args.step.now.steps c.common_divisor-divisor.result c.common_divisor-divisor.ensures.greatest (c.is_long.ensures.some c.if-is_long.false)

pub step_with-requires-clause-least : goal.step_with-requires-clause-least
step_with-requires-clause-least c =
    let s = c.args.step.now in
    let gcd = c.common_divisor-divisor in
    let some = some_divisor s.nanometres s.steps gcd.result (c.is_short.ensures.some c.if-is_short.false) gcd.ensures.greatest in
    least_quotient s.nanometres s.steps gcd.result some gcd.ensures.greatest (c.is_short.ensures.least c.if-is_short.false)

pub step_with-requires-clause-greatest : goal.step_with-requires-clause-greatest
step_with-requires-clause-greatest c =
    let s = c.args.step.now in
    let gcd = c.common_divisor-divisor in
    let some = some_divisor s.nanometres s.steps gcd.result (c.is_short.ensures.some c.if-is_short.false) gcd.ensures.greatest in
    greatest_quotient s.nanometres s.steps gcd.result some gcd.ensures.greatest (c.is_long.ensures.greatest c.if-is_long.false)

pub returns-clause-same : goal.returns-clause-same
returns-clause-same c =
    let s = c.args.step.now in
    let gcd = c.common_divisor-divisor in
    rw c.step_with.ensures.value (same_ratio s.nanometres s.steps gcd.result gcd.ensures.greatest)

pub returns-clause-lowest : goal.returns-clause-lowest
returns-clause-lowest c =
    let s = c.args.step.now in
    let gcd = c.common_divisor-divisor in
    let some = some_divisor s.nanometres s.steps gcd.result (c.is_short.ensures.some c.if-is_short.false) gcd.ensures.greatest in
    rw c.step_with.ensures.value (lowest s.nanometres s.steps gcd.result some gcd.ensures.greatest)
