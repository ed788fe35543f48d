use Rattle.std.proofs.Common.{arith}
use Rattle.ngc_written_machines.proofs.motors.moved_inwards.Goals as goal

pub first_place-requires-clause-motor : goal.first_place-requires-clause-motor
first_place-requires-clause-motor c = record { some = c.requires.motor.some; least = omega (arith, c.requires.motor.least); greatest = c.requires.motor.bound }

pub last_place-requires-clause-motor : goal.last_place-requires-clause-motor
last_place-requires-clause-motor c = record { some = c.requires.motor.some; least = omega (arith, c.requires.motor.least); greatest = c.requires.motor.bound }
