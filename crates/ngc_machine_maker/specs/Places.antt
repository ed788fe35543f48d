-- The travel and the places at which all axes stop. Each is a whole number of steps from the zero
-- of an axis, which is at one end of its travel.
use Rattle.std.specs.Prelude.{ℕ, ◌*◌, ◌/◌, ◌==◌, ◌||◌, nat_lt, min, ℤ, pos, neg_ℤ, Bool, Option}
use Rattle.std.specs.Prelude.{Some, None, Result, Ok, Err, if◌then◌else◌}
use Rattle.ngc_machine_maker.specs.declared.figures.Axis.{Axis}
use Rattle.ngc_machine_maker.specs.declared.figures.Axis.TheVariants as axes
use Rattle.ngc_machine_maker.specs.declared.figures.End.{End}
use Rattle.ngc_machine_maker.specs.declared.figures.End.TheVariants as ends
use Rattle.ngc_machine_maker.specs.declared.figures.Length.{Length}
use Rattle.ngc_machine_maker.specs.declared.figures.PerAxis.{PerAxis}
use Rattle.ngc_machine_maker.specs.declared.refusal.FigureRefusal.{FigureRefusal}
use Rattle.ngc_machine_maker.specs.declared.refusal.FigureRefusal.TheVariants as refusals
use Rattle.ngc_machine_maker.specs.declared.refusal.Stop.{Stop}
use Rattle.ngc_machine_maker.specs.declared.scale.Scale.{Scale}
use Rattle.ngc_machine_maker.specs.Formulas.{and_then, each_axis, steps_in}

-- the number of whole steps within a length
abbrev pub length_in : Scale → Length → ℕ
length_in scale length = steps_in scale length.nanometres 1

-- the longest travel: 3,999 mm, and 1,000 mm in a file with rates
abbrev pub travel_limit : Bool → ℕ
travel_limit far = if far then 3999000000 else 1000000000

abbrev pub travel_refusal : Bool → Axis → FigureRefusal
travel_refusal far axis = if far then refusals.FarTravel axis else refusals.Travel axis

-- a travel is from a step to the longest
abbrev pub travel_of : Scale → Bool → Length → Axis → Result ℕ FigureRefusal
travel_of scale far length axis =
    if length_in scale length == 0 || nat_lt (travel_limit far) length.nanometres
    then Err (travel_refusal far axis) else Ok (length_in scale length)

abbrev pub travels_of : Scale → Bool → PerAxis Length → Result (PerAxis ℕ) FigureRefusal
travels_of scale far travel = each_axis (travel_of scale far) travel

-- the distance of a place from zero, in steps: the place is within the length of the travel, and
-- within the steps of the travel
abbrev pub stop_of : Scale → ℕ → Length → Length → FigureRefusal → Result ℕ FigureRefusal
stop_of scale travel within stop refusal =
    if nat_lt within.nanometres stop.nanometres then Err refusal
    else Ok (min (stop.nanometres / scale.step) travel)

abbrev pub stops_of : Scale → PerAxis ℕ → PerAxis Length → Stop → PerAxis Length →
    Result (PerAxis ℕ) FigureRefusal
stops_of scale travel within stop p =
    and_then (stop_of scale travel.x within.x p.x (refusals.Outside stop axes.X)) (λ x.
    and_then (stop_of scale travel.y within.y p.y (refusals.Outside stop axes.Y)) (λ y.
    and_then (stop_of scale travel.z within.z p.z (refusals.Outside stop axes.Z)) (λ z.
    Ok (record { x = x; y = y; z = z }))))

-- a home position is the start, unless a place is specified
abbrev pub stops_by : Scale → PerAxis ℕ → PerAxis Length → Stop → PerAxis ℕ →
    Option (PerAxis Length) → Result (PerAxis ℕ) FigureRefusal
stops_by scale travel within stop start None = Ok start
stops_by scale travel within stop start (Some p) = stops_of scale travel within stop p

-- the coordinate of a place at this number of steps from zero, into the travel
abbrev pub coordinate : Scale → End → ℕ → ℤ
coordinate scale ends.Low steps = pos (steps * scale.step)
coordinate scale ends.High steps = neg_ℤ (pos (steps * scale.step))

-- the ends of a travel of this number of steps
abbrev pub low_of : Scale → End → ℕ → ℤ
low_of scale ends.Low travel = pos 0
low_of scale ends.High travel = coordinate scale ends.High travel

abbrev pub high_of : Scale → End → ℕ → ℤ
high_of scale ends.Low travel = coordinate scale ends.Low travel
high_of scale ends.High travel = pos 0

abbrev pub lows_of : Scale → PerAxis End → PerAxis ℕ → PerAxis ℤ
lows_of scale zero travel =
    record {
      x = low_of scale zero.x travel.x;
      y = low_of scale zero.y travel.y;
      z = low_of scale zero.z travel.z;
    }

abbrev pub highs_of : Scale → PerAxis End → PerAxis ℕ → PerAxis ℤ
highs_of scale zero travel =
    record {
      x = high_of scale zero.x travel.x;
      y = high_of scale zero.y travel.y;
      z = high_of scale zero.z travel.z;
    }

abbrev pub place_of : Scale → PerAxis End → PerAxis ℕ → PerAxis ℤ
place_of scale zero stops =
    record {
      x = coordinate scale zero.x stops.x;
      y = coordinate scale zero.y stops.y;
      z = coordinate scale zero.z stops.z;
    }
