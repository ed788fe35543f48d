use Rattle.std.proofs.Common.{◌^◌, ◌<◌, arith}
use Rattle.std.proofs.lemmas.Nat.{pow_below, pow_pos}
use Rattle.ngc_dialect_numbers.proofs.growth.power_of_two.Goals as goal

pub pow-requires : goal.pow-requires
pow-requires c = pow_below c.args.exponent 128 (omega arith)

pub returns-clause-some : goal.returns-clause-some
returns-clause-some c = rw c.pow.ensures (pow_pos c.args.exponent)

pub returns-clause-bound : goal.returns-clause-bound
returns-clause-bound c = rw c.pow.ensures (pow_below c.args.exponent 46 (omega arith))
