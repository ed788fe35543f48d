use Rattle.std.proofs.Common.{arith}
use Rattle.std.proofs.lemmas.Int.{ints}
use Rattle.ngc_motors.proofs.Sizes.{motor_step, on_grid}
use Rattle.ngc_motors.proofs.Slack.{half_most}
use Rattle.ngc_motors.proofs.motors.slack_of.Goals as goal

pub overflow_mul-twice : goal.overflow_mul-twice
overflow_mul-twice c =
    let is = motor_step c.args.grid c.args.step.now c.requires.grid c.requires.motor in omega (arith, is.least, is.greatest)

pub overflow_add-result : goal.overflow_add-result
overflow_add-result c =
    let is = motor_step c.args.grid c.args.step.now c.requires.grid c.requires.motor in omega (arith, is.least, is.greatest)

pub returns-clause-most : goal.returns-clause-most
returns-clause-most c =
    let on = on_grid c.args.grid c.args.step.now c.requires.motor in
    let most = half_most c.args.step.now.nanometres c.args.step.now.steps on.some on.most in
    omega (arith, ints, most)
