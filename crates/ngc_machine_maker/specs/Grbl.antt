-- The settings of a controller with Grbl, as it prints them after $$: a line for each, as
-- $100=800.000 or $100 = 800.000 (x, step/mm).
use Rattle.std.specs.Prelude.{ℕ, ◌+◌, ◌-◌, ◌/◌, ◌%◌, ◌==◌, ◌&&◌, ◌||◌, not, Bool, List, []}
use Rattle.std.specs.Prelude.{◌∷◌, length, drop, Option, Some, None, is_some, is_none, Result}
use Rattle.std.specs.Prelude.{Ok, Err, true, false, if◌then◌else◌}
use Rattle.ngc_grbl_lines.specs.Lines.{lines_of}
use Rattle.ngc_grbl_lines.specs.Entries.{setting_number, setting_value}
use Rattle.ngc_machine_maker.specs.declared.figures.End.TheVariants as ends
use Rattle.ngc_machine_maker.specs.declared.figures.Figures.{Figures}
use Rattle.ngc_machine_maker.specs.declared.figures.Dump.{Dump}
use Rattle.ngc_machine_maker.specs.declared.figures.Length.{Length}
use Rattle.ngc_machine_maker.specs.declared.figures.PerAxis.{PerAxis}
use Rattle.ngc_machine_maker.specs.declared.figures.StoredPlaces.{StoredPlaces}
use Rattle.ngc_machine_maker.specs.declared.figures.Supplied.{Supplied}
use Rattle.ngc_machine_maker.specs.declared.grbl.Settings.{Settings}
use Rattle.ngc_machine_maker.specs.declared.refusal.FigureRefusal.{FigureRefusal}
use Rattle.ngc_machine_maker.specs.declared.refusal.FigureRefusal.TheVariants as refusals
use Rattle.ngc_machine_maker.specs.Decimals.{begins, is_number, number_in}
use Rattle.ngc_machine_maker.specs.Formulas.{and_then}
use Rattle.ngc_machine_maker.specs.Options.{each_of, length_of, speed_of, acceleration_of, steps}
use Rattle.ngc_machine_maker.specs.Options.{same_for_all, figures_by}
use Rattle.ngc_machine_maker.specs.Stored.{places_in}

-- ---- a setting

abbrev pub is_some_number : ℕ → Option ℕ → Bool
is_some_number number None = false
is_some_number number (Some n) = n == number

-- a line that has the setting with this number
unfoldable pub has_setting : ℕ → List ℕ → Bool
has_setting number line = is_some_number number (number_in 0 (setting_number line))

-- a number of any length, which may begin with a minus sign
abbrev pub is_any_number : List ℕ → Bool
is_any_number text = is_number (length text) text

abbrev pub is_negative : List ℕ → Bool
is_negative text = begins 45 text && is_any_number (drop 1 text)

-- why the value of a setting can't be used
abbrev pub unusable : ℕ → ℕ → List ℕ → FigureRefusal
unusable number at text =
    if is_negative text then refusals.Negative number at else
    (if is_any_number text then refusals.Digits number at else refusals.Setting number at)

abbrev pub value_by : ℕ → ℕ → List ℕ → Option ℕ → Result (Option ℕ) FigureRefusal
value_by number at text None = Err (unusable number at text)
value_by number at text (Some n) = Ok (Some n)

-- the value of a setting, in units of which 10 ^ places make one
unfoldable pub value_in : ℕ → ℕ → ℕ → List ℕ → Result (Option ℕ) FigureRefusal
value_in number places at text = value_by number at text (number_in places text)

-- the value of a setting, from the first of these lines that has it; the first line has the number
-- `at`
abbrev pub setting_in : ℕ → ℕ → ℕ → List (List ℕ) → Result (Option ℕ) FigureRefusal
setting_in number places at [] = Ok None
setting_in number places at (line ∷ rest) =
    if has_setting number line then value_in number places at (setting_value line)
    else setting_in number places (at + 1) rest

unfoldable pub setting : List ℕ → ℕ → ℕ → Result (Option ℕ) FigureRefusal
setting text number places = setting_in number places 1 (lines_of text)

-- three successive settings: X, Y and Z
abbrev pub three_settings : List ℕ → ℕ → ℕ → Result (PerAxis (Option ℕ)) FigureRefusal
three_settings text number places =
    and_then (setting text number places) (λ x.
    and_then (setting text (number + 1) places) (λ y.
    and_then (setting text (number + 2) places) (λ z.
    Ok (record { x = x; y = y; z = z }))))

-- settings that a dump must have: nobody can guess the steps and the travel of a machine
abbrev pub required_by : ℕ → Option ℕ → Result ℕ FigureRefusal
required_by number None = Err (refusals.Missing number)
required_by number (Some n) = Ok n

abbrev pub required : List ℕ → ℕ → ℕ → Result ℕ FigureRefusal
required text number places = and_then (setting text number places) (λ n. required_by number n)

abbrev pub three_required : List ℕ → ℕ → ℕ → Result (PerAxis ℕ) FigureRefusal
three_required text number places =
    and_then (required text number places) (λ x.
    and_then (required text (number + 1) places) (λ y.
    and_then (required text (number + 2) places) (λ z.
    Ok (record { x = x; y = y; z = z }))))

-- $100 to $102 are steps per millimetre, $110 to $112 the greatest speeds in millimetres per
-- minute, $120 to $122 accelerations in millimetres per second squared, $130 to $132 the travel in
-- millimetres, $23 the mask of axes that home to their low end, $27 the pull-off in millimetres,
-- and $13 is not 0 if places are in inches
abbrev pub settings_in : List ℕ → Result Settings FigureRefusal
settings_in text =
    and_then (three_required text 100 6) (λ motors.
    and_then (three_settings text 110 3) (λ feed.
    and_then (three_settings text 120 3) (λ acceleration.
    and_then (three_required text 130 6) (λ travel.
    and_then (setting text 23 0) (λ mask.
    and_then (setting text 27 6) (λ pull_off.
    and_then (setting text 13 0) (λ unit.
    Ok (record {
      motors = each_of steps motors;
      feed = feed;
      acceleration = acceleration;
      travel = travel;
      mask = mask;
      pull_off = pull_off;
      unit = unit;
    }))))))))

-- ---- GRBL's defaults: 500 mm/min, 10 mm/s^2, homing to the high ends, a pull-off of 1 mm, and
-- places in millimetres. They are those of its file config.h and of DEFAULTS_GENERIC, version 1.1

abbrev pub or_default : ℕ → Option ℕ → ℕ
or_default otherwise None = otherwise
or_default otherwise (Some n) = n

abbrev pub each_or : ℕ → PerAxis (Option ℕ) → PerAxis ℕ
each_or otherwise p =
    record {
      x = or_default otherwise p.x;
      y = or_default otherwise p.y;
      z = or_default otherwise p.z;
    }

abbrev pub is_inches : Option ℕ → Bool
is_inches unit = not (or_default 0 unit == 0)

abbrev pub each_missing : PerAxis (Option ℕ) → PerAxis Bool
each_missing p = record { x = is_none p.x; y = is_none p.y; z = is_none p.z }

abbrev pub has_places : StoredPlaces → Bool
has_places p =
    is_some p.g54 || (is_some p.g55 || (is_some p.g56
    || (is_some p.g57 || (is_some p.g58 || (is_some p.g59
    || (is_some p.g28 || (is_some p.g30 || is_some p.g92)))))))

abbrev pub supplied : Settings → StoredPlaces → Supplied
supplied s places =
    record {
      unit = is_none s.unit && has_places places;
      ends = is_none s.mask;
      pull_off = is_none s.pull_off;
      feed = each_missing s.feed;
      acceleration = each_missing s.acceleration;
    }

-- ---- figures

-- after homing an axis is away from its end by the pull-off: from its high end, where zero is, or
-- from its low end if its bit of the mask is 1
abbrev pub homed : ℕ → ℕ → ℕ → ℕ
homed bit pull_off travel = if bit == 1 then travel - pull_off else pull_off

abbrev pub homed_axes : ℕ → ℕ → PerAxis ℕ → PerAxis ℕ
homed_axes mask pull_off travel =
    record {
      x = homed (mask % 2) pull_off travel.x;
      y = homed (mask / 2 % 2) pull_off travel.y;
      z = homed (mask / 4 % 2) pull_off travel.z;
    }

-- the figures of a machine with GRBL, with another start, and with what a dump has besides
abbrev pub started_by_grbl : Figures → PerAxis Length → Dump → Figures
started_by_grbl f start dump =
    record {
      scale = f.scale;
      motors = f.motors;
      travel = f.travel;
      feed = f.feed;
      acceleration = f.acceleration;
      corner = f.corner;
      jump = f.jump;
      arcs = f.arcs;
      ticks = f.ticks;
      ring = f.ring;
      arc_feed = f.arc_feed;
      far = f.far;
      grbl = true;
      zero = f.zero;
      start = start;
      home28 = f.home28;
      home30 = f.home30;
      dump = dump;
    }

-- zero is at the high end of each axis
abbrev pub plain_figures : Settings → Figures
plain_figures s =
    figures_by s.motors (each_of length_of s.travel) (each_of speed_of (each_or 500000 s.feed))
    (each_of acceleration_of (each_or 10000 s.acceleration)) (same_for_all ends.High)

-- the start is where homing ends
abbrev pub homed_start : Settings → PerAxis Length
homed_start s =
    each_of length_of (homed_axes (or_default 0 s.mask) (or_default 1000000 s.pull_off) s.travel)

abbrev pub figures_from : Settings → StoredPlaces → Figures
figures_from s places =
    started_by_grbl (plain_figures s) (homed_start s)
    (record { supplied = supplied s places; places = places })

abbrev pub figures_in : Bool → List ℕ → Result Figures FigureRefusal
figures_in far text =
    and_then (settings_in text) (λ s.
    and_then (places_in text (record { inches = is_inches s.unit; far = far })) (λ places.
    Ok (figures_from s places)))
