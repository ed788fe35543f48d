-- The step of a motor: a ratio of nanometres and steps. Our own.
use Rattle.std.specs.Prelude.{ℕ, ◌+◌, ◌*◌, ◌==◌, ◌≤◌, List, codes, None, Result, Ok, Err}
use Rattle.std.specs.Prelude.{if◌then◌else◌, unsigned_abs, Bool, take, drop, nat_eq, ◌<◌}
use Rattle.std.specs.List.{starts_with}
use Rattle.std.specs.Str.{bytes_eq}
use Rattle.ngc_quantities.specs.declared.fault.Cause.{Cause}
use Rattle.ngc_quantities.specs.declared.fault.Cause.TheVariants as causes
use Rattle.ngc_quantities.specs.declared.fault.Fault.{Fault}
use Rattle.ngc_quantities.specs.declared.motor.Step.{Step}
use Rattle.ngc_quantities.specs.declared.motor.Drive.{Drive}
use Rattle.ngc_quantities.specs.declared.motor.Gear.{Gear}
use Rattle.ngc_quantities.specs.declared.unit.Ending.{Ending}
use Rattle.ngc_quantities.specs.declared.unit.Ending.TheVariants as endings
use Rattle.ngc_quantities.specs.declared.unit.Kind.{Kind}
use Rattle.ngc_quantities.specs.declared.unit.Kind.TheVariants as kinds
use Rattle.ngc_quantities.specs.declared.written.Written.{Written}
use Rattle.ngc_quantities.specs.declared.written.Whole.{Whole}
use Rattle.ngc_quantities.specs.Numbers.{and_then}
use Rattle.ngc_quantities.specs.Quantities.{short_length, not_negative, wanted_of}
use Rattle.ngc_quantities.specs.Texts.{first_word, has, before, after, after_index, mark_index}
use Rattle.ngc_quantities.specs.Units.{size_of}
use Rattle.ngc_quantities.specs.Written.{fault, placed, written_in, whole_in, unit_text, number_column}

-- ---- 80 steps/mm: a step is the unit's length over the number

abbrev pub step_by : Written → Result Step Cause
step_by w =
    if w.number.negative then Err causes.Negative else (
    if w.number.ratio.top == 0 then Err causes.Zero
    else Ok (record {
      nanometres = size_of w.unit * w.number.ratio.bottom;
      steps = w.number.ratio.top;
    }))

abbrev pub plain_step : List ℕ → Result Step Fault
plain_step text =
    and_then (written_in (wanted_of kinds.Steps None endings.Nothing) 0 text) (λ w.
    placed w.column (step_by w))

-- ---- a chain: the angle of a full step, microsteps, what moves per turn, and maybe a gear

abbrev pub not_zero : Whole → Result ℕ Fault
not_zero w =
    if unsigned_abs w.amount == 0 then fault w.column causes.Zero else Ok (unsigned_abs w.amount)

-- a part of the chain that is more than zero
abbrev pub some_of : Kind → Ending → ℕ → List ℕ → Result ℕ Fault
some_of kind ending at text =
    and_then (whole_in (wanted_of kind None ending) at text) (λ w.
    and_then (not_negative w) not_zero)

-- a gear as "24 teeth drive 60 teeth", from column at + 1 on. The word "drive" is at the first d
abbrev pub drive_index : ℕ → List ℕ → Result ℕ Fault
drive_index at text =
    let index = mark_index 100 text in
    if starts_with nat_eq (drop index text) (codes "drive") then Ok index
    else fault (number_column at text) causes.NoGear

-- the teeth of the motor's wheel, and those of the wheel that it drives
unfoldable pub gear_of : ℕ → List ℕ → Result Gear Fault
gear_of at text =
    and_then (drive_index at text) (λ index.
    and_then (some_of kinds.Teeth endings.Nothing at (take index text)) (λ motor.
    and_then (some_of kinds.Teeth endings.Nothing (at + (index + 5)) (drop (index + 5) text)) (λ driven.
    Ok (record { motor = motor; driven = driven }))))

pub record IsGear (gear : Gear) : Type 0 where
  pub some_motor : 0 < gear.motor
  pub motor : gear.motor ≤ 99999
  pub some_driven : 0 < gear.driven
  pub driven : gear.driven ≤ 99999

-- the gear after the first comma of a text, or none
abbrev pub gear_in : ℕ → List ℕ → Result Gear Fault
gear_in at text =
    if has 44 text then gear_of (at + after_index text) (after 44 text)
    else Ok (record { motor = 1; driven = 1 })

pub record IsDrive (drive : Drive) : Type 0 where
  pub some : 0 < drive.nanometres
  pub nanometres : drive.nanometres ≤ 99999000000000000
  pub gear : IsGear drive.gear

-- what moves the axis: how many nanometres in a turn, and the gear
abbrev pub pitch_in : ℕ → List ℕ → Result Drive Fault
pitch_in at text =
    and_then (some_of kinds.Length endings.Pitch at (before 44 text)) (λ pitch.
    and_then (gear_in at text) (λ gear.
    Ok (record { nanometres = pitch; gear = gear })))

abbrev pub belt_of : ℕ → ℕ → List ℕ → Result Drive Fault
belt_of teeth at text =
    and_then (some_of kinds.Length endings.Belt at (before 44 text)) (λ pitch.
    and_then (gear_in at text) (λ gear.
    Ok (record { nanometres = teeth * pitch; gear = gear })))

abbrev pub belt_in : ℕ → List ℕ → Result Drive Fault
belt_in at text =
    and_then (some_of kinds.Teeth endings.Nothing at (before 44 text)) (λ teeth.
    belt_of teeth (at + after_index text) (after 44 text))

-- 20 teeth, 2 mm belt; or 5 mm pitch
abbrev pub is_belt : List ℕ → Bool
is_belt text = bytes_eq (first_word (unit_text (before 44 text))) (codes "teeth")

unfoldable pub drive_in : ℕ → List ℕ → Result Drive Fault
drive_in at text = if is_belt text then belt_in at text else pitch_in at text

-- a turn has 360 degrees of 10^9 billionths each. The motor turns 60 times while a wheel of 24 teeth
-- drives one of 60 teeth 24 times
abbrev pub chain_of : ℕ → ℕ → Drive → Step
chain_of angle microsteps drive =
    record {
      nanometres = drive.nanometres * angle * drive.gear.motor;
      steps = 360000000000 * microsteps * drive.gear.driven;
    }

abbrev pub chain_by : ℕ → ℕ → List ℕ → Result Step Fault
chain_by angle at text =
    and_then (some_of kinds.Microsteps endings.Nothing at (before 44 text)) (λ microsteps.
    and_then (drive_in (at + after_index text) (after 44 text)) (λ drive.
    Ok (chain_of angle microsteps drive)))

abbrev pub chain : List ℕ → Result Step Fault
chain text =
    and_then (some_of kinds.Angle endings.Nothing 0 (before 44 text)) (λ angle.
    chain_by angle (after_index text) (after 44 text))

-- a text with a comma is a chain
abbrev pub motor_of : List ℕ → Result Step Fault
motor_of text =
    and_then (short_length text) (λ _.
    if has 44 text then chain text else plain_step text)
