use Rattle.std.proofs.Common.{arith}
use Rattle.ngc_map_picture.proofs.Division.{divides_odd, divides_even}
use Rattle.ngc_map_picture.proofs.check.shifted.Goals as goal

pub returns-then-register-eq1 : goal.returns-then-register-eq1
returns-then-register-eq1 c = divides_odd c.args.register (omega arith) c.if-register-eq1.true

pub returns-else-register-eq1 : goal.returns-else-register-eq1
returns-else-register-eq1 c = divides_even c.args.register (omega arith) (omega (arith, c.if-register-eq1.false))
