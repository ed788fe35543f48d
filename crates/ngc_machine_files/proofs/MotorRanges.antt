-- Ranges of the steps of motors.
use Rattle.std.proofs.Common.{◌≡◌, ℤ, pos, true}
use Rattle.std.proofs.lemmas.Bool.{and_parts}
use Rattle.ngc_fixed_length.specs.Length.{IsStep}
use Rattle.ngc_motors.specs.Counts.{IsMotorStep, is_motor}
use Rattle.ngc_motors.specs.declared.step.MotorSteps.{MotorSteps}
use Rattle.ngc_motors.proofs.Sizes.{motor_step}
use Rattle.ngc_machine_files.specs.Numbers.{from_to}
use Rattle.ngc_machine_files.proofs.GoodFiles.{from}
use Rattle.ngc_machine_files.specs.MachineText.{good_motors}

pub some_steps : (step : ℤ) (motors : MotorSteps) → from_to (pos 500) (pos 50000) step ≡ true → good_motors step motors ≡ true →
    IsMotorStep motors.x × IsMotorStep motors.y × IsMotorStep motors.z
unfolding good_motors
some_steps step motors range h =
    let is = from (pos 500) (pos 50000) step range in
    let grid : IsStep step = record { least = is.least; greatest = is.greatest } in
    let (xy, z) = and_parts _ (is_motor step motors.z) h in
    let (x, y) = and_parts (is_motor step motors.x) (is_motor step motors.y) xy in
    (motor_step step motors.x grid x, motor_step step motors.y grid y, motor_step step motors.z grid z)
