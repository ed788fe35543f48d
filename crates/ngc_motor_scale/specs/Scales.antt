-- A motor's step as a ratio in lowest terms. Our own.
use Rattle.std.specs.Prelude.{ℕ, zero, suc, ◌*◌, ◌/◌, ◌%◌, ◌==◌, ◌||◌, ◌<◌, ◌≤◌, ◌≡◌, nat_lt, Bool}
use Rattle.std.specs.Prelude.{Result, Ok, Err, if◌then◌else◌}
use Rattle.ngc_quantities.specs.declared.motor.Step.{Step}
use Rattle.ngc_motors.specs.declared.step.MotorStep.{MotorStep}
use Rattle.ngc_motor_scale.specs.declared.scale.ScaleRefusal.{ScaleRefusal}
use Rattle.ngc_motor_scale.specs.declared.scale.ScaleRefusal.TheVariants as refusals

-- shorter than 500 nm
abbrev pub is_short : Step → Bool
is_short s = (s.nanometres == 0) || nat_lt s.nanometres (500 * s.steps)

-- longer than 50,000 nm
abbrev pub is_long : Step → Bool
is_long s = nat_lt (50000 * s.steps) s.nanometres

abbrev pub step_with : ℕ → ℕ → MotorStep
step_with steps nanometres = record { nanometres = nanometres; steps = steps }

-- no number of the ratio is above 2^40
abbrev pub scale_in : ℕ → ℕ → Result MotorStep ScaleRefusal
scale_in steps nanometres =
    if nat_lt 1099511627776 nanometres then Err refusals.Fine else Ok (step_with steps nanometres)

-- the scale of a step, with the greatest common divisor of the ratio's numbers
abbrev pub scale_by : Step → ℕ → Result MotorStep ScaleRefusal
scale_by s divisor =
    if is_short s then Err refusals.Short else (
    if is_long s then Err refusals.Long
    else scale_in (s.steps / divisor) (s.nanometres / divisor))

-- the greatest common divisor of a and b by Euclid's algorithm, in at most n steps
unfoldable pub gcd_within : ℕ → ℕ → ℕ → ℕ
gcd_within zero a b = a
gcd_within (suc n) a b = if b == 0 then a else gcd_within n b (a % b)

-- the second number falls at each step, so b steps are enough
abbrev pub gcd : ℕ → ℕ → ℕ
gcd a b = gcd_within b a b

abbrev pub scale_of : Step → Result MotorStep ScaleRefusal
scale_of s = scale_by s (gcd s.nanometres s.steps)

-- it is the same ratio
abbrev pub IsSameRatio : Step → MotorStep → Type 0
IsSameRatio s scale = scale.steps * s.nanometres ≡ scale.nanometres * s.steps

-- a step of 500 to 50,000 nm, with numbers of 1 to 2^40
pub record IsScale (scale : MotorStep) : Type 0 where
  pub some : 0 < scale.steps
  pub bound : scale.nanometres ≤ 1099511627776
  pub least : 500 * scale.steps ≤ scale.nanometres
  pub greatest : scale.nanometres ≤ 50000 * scale.steps
