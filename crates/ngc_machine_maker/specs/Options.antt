-- The figures in the texts of options.
use Rattle.std.specs.Borrow.{Bor}
use Rattle.std.specs.Prelude.{ℕ, ◌*◌, ◌/◌, max, nat_lt, List, codes, bytes_eq, Option, Some, None}
use Rattle.std.specs.Prelude.{Result, Ok, Err, true, false, if◌then◌else◌}
use Rattle.ngc_machine_maker.specs.declared.figures.Acceleration.{Acceleration}
use Rattle.ngc_machine_maker.specs.declared.figures.End.{End}
use Rattle.ngc_machine_maker.specs.declared.figures.End.TheVariants as ends
use Rattle.ngc_machine_maker.specs.declared.figures.Figures.{Figures}
use Rattle.ngc_machine_maker.specs.declared.figures.Length.{Length}
use Rattle.ngc_machine_maker.specs.declared.figures.PerAxis.{PerAxis}
use Rattle.ngc_machine_maker.specs.declared.figures.Speed.{Speed}
use Rattle.ngc_machine_maker.specs.declared.figures.StepsPerMillimetre.{StepsPerMillimetre}
use Rattle.ngc_machine_maker.specs.declared.options.Options.{Options}
use Rattle.ngc_machine_maker.specs.declared.refusal.Field.{Field}
use Rattle.ngc_machine_maker.specs.declared.refusal.Field.TheVariants as fields
use Rattle.ngc_machine_maker.specs.declared.refusal.FigureRefusal.{FigureRefusal}
use Rattle.ngc_machine_maker.specs.declared.refusal.FigureRefusal.TheVariants as refusals
use Rattle.ngc_machine_maker.specs.Decimals.{number_in, numbers_in}
use Rattle.ngc_machine_maker.specs.Formulas.{and_then, least, no_dump, ratio_of}
use Rattle.ngc_machine_maker.specs.Motors.{finest}

abbrev pub same_for_all : {T : Type 0} → T → PerAxis T
same_for_all value = record { x = value; y = value; z = value }

-- ---- figures as numbers

abbrev pub steps : ℕ → StepsPerMillimetre
steps n = record { millionths = n }

abbrev pub length_of : ℕ → Length
length_of n = record { nanometres = n }

-- a speed in thousandths of a millimetre per minute
abbrev pub speed_of : ℕ → Speed
speed_of n = record { nanometres_a_minute = 1000 * n }

-- an acceleration in thousandths of a millimetre per second squared
abbrev pub acceleration_of : ℕ → Acceleration
acceleration_of n = record { nanometres_a_second_squared = 1000 * n }

abbrev pub each_of : {T : Type 0} → (ℕ → T) → PerAxis ℕ → PerAxis T
each_of f p = record { x = f p.x; y = f p.y; z = f p.z }

-- ---- their texts

-- the value of a text, or that it can't be read
abbrev pub read_by : {T U : Type 0} → Field → (T → U) → Option T → Result U FigureRefusal
read_by field f None = Err (refusals.Unread field)
read_by field f (Some x) = Ok (f x)

-- one number for all axes, or a number for each
abbrev pub all_or_each : Option ℕ → Option (PerAxis ℕ) → Option (PerAxis ℕ)
all_or_each (Some n) each = Some (same_for_all n)
all_or_each None each = each

-- steps per millimetre have up to six decimals, and so have lengths in millimetres
abbrev pub motors_in : List ℕ → Result (PerAxis StepsPerMillimetre) FigureRefusal
motors_in text =
    read_by fields.Steps (each_of steps) (all_or_each (number_in 6 text) (numbers_in 6 text))

abbrev pub lengths_in : Field → List ℕ → Result (PerAxis Length) FigureRefusal
lengths_in field text = read_by field (each_of length_of) (numbers_in 6 text)

-- speeds in millimetres per minute have up to three decimals, and so have accelerations
abbrev pub speeds_in : Field → List ℕ → Result (PerAxis Speed) FigureRefusal
speeds_in field text = read_by field (each_of speed_of) (numbers_in 3 text)

abbrev pub accelerations_in : Field → List ℕ → Result (PerAxis Acceleration) FigureRefusal
accelerations_in field text = read_by field (each_of acceleration_of) (numbers_in 3 text)

-- a speed in millimetres per second, up to 71,582.788
abbrev pub seconds_within : Field → ℕ → Result Speed FigureRefusal
seconds_within field n =
    if nat_lt 71582788 n then Err (refusals.Unread field) else Ok (speed_of (60 * n))

abbrev pub seconds_by : Field → Option ℕ → Result Speed FigureRefusal
seconds_by field None = Err (refusals.Unread field)
seconds_by field (Some n) = seconds_within field n

abbrev pub second_speed_in : Field → List ℕ → Result Speed FigureRefusal
second_speed_in field text = seconds_by field (number_in 3 text)

-- the ends at which zero is: as on most mills, low on X and Y and high on Z, unless all are low or
-- all high
abbrev pub usual_frame : PerAxis End
usual_frame = record { x = ends.Low; y = ends.Low; z = ends.High }

abbrev pub frame_in : List ℕ → Result (PerAxis End) FigureRefusal
frame_in text =
    if bytes_eq text (codes "low") then Ok (same_for_all ends.Low) else (
    if bytes_eq text (codes "high") then Ok (same_for_all ends.High)
    else Err (refusals.Unread fields.Frame))

abbrev pub frame_by : Option (Bor (List ℕ)) → Result (PerAxis End) FigureRefusal
frame_by None = Ok usual_frame
frame_by (Some text) = frame_in text.now

-- ---- what is used where nothing is chosen

-- the speed that an acceleration reaches in 5 ms, in whole thousandths of a millimetre per minute
abbrev pub reached_in_5_ms : ℕ → ℕ
reached_in_5_ms acceleration = acceleration * 5 * 60 / 1000000

-- the corner speed: what the axis with the least acceleration reaches in 5 ms, and at least 2 mm/s
abbrev pub usual_corner : PerAxis Acceleration → Speed
usual_corner accelerations = speed_of (max (reached_in_5_ms (least accelerations)) 120000)

-- the figures of a machine whose path has the grid of its finest motor. It has this corner speed, the
-- same jump, a ring of 256 commands, and arcs at their feed and their turn. It starts at zero, and
-- its programs are in our own language
abbrev pub figures_by : PerAxis StepsPerMillimetre → PerAxis Length → PerAxis Speed →
    PerAxis Acceleration → PerAxis End → Figures
figures_by motors travel feed acceleration zero =
    record {
      scale = ratio_of (finest motors);
      motors = motors;
      travel = travel;
      feed = feed;
      acceleration = acceleration;
      corner = usual_corner acceleration;
      jump = None;
      arcs = None;
      ticks = None;
      ring = 256;
      arc_feed = true;
      far = true;
      grbl = false;
      zero = zero;
      start = same_for_all (length_of 0);
      home28 = None;
      home30 = None;
      dump = no_dump;
    }

abbrev pub figures_of : Options → Result Figures FigureRefusal
figures_of o =
    and_then (motors_in o.steps_per_mm.now) (λ motors.
    and_then (lengths_in fields.Travel o.travel.now) (λ travel.
    and_then (speeds_in fields.Feed o.feed.now) (λ feed.
    and_then (accelerations_in fields.Acceleration o.acceleration.now) (λ acceleration.
    and_then (frame_by o.frame) (λ zero.
    Ok (figures_by motors travel feed acceleration zero))))))
