use Rattle.std.proofs.Common.{arith}
use Rattle.std.proofs.lemmas.Int.{ints, clamps}
use Rattle.ngc_motors.proofs.motors.Motors.slack.Goals as goal

pub length-requires-clause-most : goal.length-requires-clause-most
length-requires-clause-most c =
    omega (arith, ints, clamps, c.slack_of-x.ensures.most, c.slack_of-y.ensures.most, c.slack_of-z.ensures.most)

pub returns-clause-most : goal.returns-clause-most
returns-clause-most c =
    omega (arith, ints, clamps, c.slack_of-x.ensures.most, c.slack_of-y.ensures.most, c.slack_of-z.ensures.most, c.length.ensures)
