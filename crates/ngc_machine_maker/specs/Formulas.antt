-- From a shop's figures to the numbers of a machine file. A step in the file is a whole number of
-- nanometres, and the motor's may be a little shorter or longer. A limit is computed with both
-- steps, and the lesser number of steps is used. So the machine is neither faster than requested
-- nor goes farther, with the file's step or with the motor's.
use Rattle.std.specs.Prelude.{ℕ, ◌+◌, ◌*◌, ◌/◌, ◌==◌, ◌||◌, nat_lt, min, max, Option, Some, None}
use Rattle.std.specs.Prelude.{Result, Ok, Err, Bool, false, if◌then◌else◌}
use Rattle.ngc_machine_maker.specs.declared.figures.Axis.{Axis}
use Rattle.ngc_machine_maker.specs.declared.figures.Axis.TheVariants as axes
use Rattle.ngc_machine_maker.specs.declared.figures.Dump.{Dump}
use Rattle.ngc_machine_maker.specs.declared.figures.PerAxis.{PerAxis}
use Rattle.ngc_machine_maker.specs.declared.figures.Ratio.{Ratio}
use Rattle.ngc_machine_maker.specs.declared.figures.StepsPerMillimetre.{StepsPerMillimetre}
use Rattle.ngc_machine_maker.specs.declared.figures.Speed.{Speed}
use Rattle.ngc_machine_maker.specs.declared.figures.Acceleration.{Acceleration}
use Rattle.ngc_machine_maker.specs.declared.figures.Figures.{Figures}
use Rattle.ngc_machine_maker.specs.declared.refusal.FigureRefusal.{FigureRefusal}
use Rattle.ngc_machine_maker.specs.declared.refusal.FigureRefusal.TheVariants as refusals
use Rattle.ngc_machine_maker.specs.declared.rates.Rates.{Rates}
use Rattle.ngc_machine_maker.specs.declared.scale.Scale.{Scale}

-- the first refusal, or the next result for the value
abbrev pub and_then : {T U : Type 0} → Result T FigureRefusal → (T → Result U FigureRefusal) → Result U FigureRefusal
and_then (Err refusal) f = Err refusal
and_then (Ok x) f = f x

-- what figures have that are from no dump of settings
abbrev pub none_supplied : PerAxis Bool
none_supplied = record { x = false; y = false; z = false }

abbrev pub no_dump : Dump
no_dump =
    record {
      supplied = record {
        unit = false;
        ends = false;
        pull_off = false;
        feed = none_supplied;
        acceleration = none_supplied;
      };
      places = record {
        g54 = None;
        g55 = None;
        g56 = None;
        g57 = None;
        g58 = None;
        g59 = None;
        g28 = None;
        g30 = None;
        g92 = None;
      };
    }

-- a millimetre has 1,000,000 nm, and steps per millimetre are in millionths
abbrev pub ratio_of : StepsPerMillimetre → Ratio
ratio_of s = record { steps = s.millionths; per = 1000000000000 }

-- the length of a step, if a motor makes `steps` of them in `per` nanometres: the nearest whole
-- number of nanometres, halves upwards
abbrev pub nearest_step : ℕ → ℕ → ℕ
nearest_step steps per = (2 * per + steps) / (2 * steps)

-- a motor's step is from 500 to 50,000 nm, and its ratio is over 2^40 nm at most
abbrev pub is_refused : Ratio → Bool
is_refused r =
    (r.steps == 0) || (nat_lt 1099511627776 r.per
    || (nat_lt r.per (500 * r.steps) || nat_lt (50000 * r.steps) r.per))

abbrev pub scale_of : Ratio → Result Scale FigureRefusal
scale_of r =
    if is_refused r then Err refusals.Step
    else Ok (record { steps = r.steps; per = r.per; step = nearest_step r.steps r.per })

-- the number of steps in a length, which is an amount of nanometres over a divisor: the lesser of
-- the numbers with the motor's step and with the file's
abbrev pub steps_in : Scale → ℕ → ℕ → ℕ
steps_in scale amount divisor =
    min (amount * scale.steps / (divisor * scale.per)) (amount / (divisor * scale.step))

-- ---- rates, in millionths of a step per tick. A speed is in nanometres per minute, and an
-- acceleration in nanometres per second squared

abbrev pub rate_of : Scale → ℕ → Speed → ℕ
rate_of scale ticks speed =
    steps_in scale (speed.nanometres_a_minute * 1000000) (60 * ticks)

-- the change of the rate from a tick to the next
abbrev pub change_of : Scale → ℕ → ℕ → ℕ
change_of scale ticks acceleration = steps_in scale (acceleration * 1000000) (ticks * ticks)

-- The acceleration towards the centre where an arc runs diagonally, in turns. With `arc_feed = 2`
-- the turn holds there too. Without it the rate is the same everywhere, and the acceleration there
-- is twice that where the arc runs along an axis.
abbrev pub diagonal_turns : Bool → ℕ
diagonal_turns by_place = if by_place then 1 else 2

abbrev pub turn_of : Bool → Scale → ℕ → ℕ → ℕ
turn_of by_place scale ticks acceleration =
    steps_in scale (acceleration * 1000000000000) (diagonal_turns by_place * (ticks * ticks))

abbrev pub fastest : PerAxis Speed → ℕ
fastest speeds =
    max (max speeds.x.nanometres_a_minute speeds.y.nanometres_a_minute)
    speeds.z.nanometres_a_minute

abbrev pub least : PerAxis Acceleration → ℕ
least a =
    min (min a.x.nanometres_a_second_squared a.y.nanometres_a_second_squared)
    a.z.nanometres_a_second_squared

-- two ticks for each step of the fastest axis, in the next whole thousand above; from 10,000 to
-- 1,000,000
abbrev pub chosen_ticks : Scale → PerAxis Speed → ℕ
chosen_ticks scale feed =
    min (max (1000 * (fastest feed * scale.steps / (30000 * scale.per) + 1)) 10000) 1000000

abbrev pub given_ticks : ℕ → Result ℕ FigureRefusal
given_ticks ticks =
    if nat_lt ticks 1 || nat_lt 1000000 ticks then Err refusals.Ticks else Ok ticks

abbrev pub ticks_by : ℕ → Option ℕ → Result ℕ FigureRefusal
ticks_by chosen None = Ok chosen
ticks_by chosen (Some ticks) = given_ticks ticks

abbrev pub ticks_of : Scale → Figures → Result ℕ FigureRefusal
ticks_of scale f = ticks_by (chosen_ticks scale f.feed) f.ticks

-- the rate of an axis: from a millionth of a step to a step per tick
abbrev pub rate_within : Axis → ℕ → Result ℕ FigureRefusal
rate_within axis rate =
    if rate == 0 then Err (refusals.SlowFeed axis) else (
    if nat_lt 1000000 rate then Err (refusals.FastFeed axis) else Ok rate)

abbrev pub axis_rate : Scale → ℕ → Speed → Axis → Result ℕ FigureRefusal
axis_rate scale ticks speed axis = rate_within axis (rate_of scale ticks speed)

-- the result for the value of each axis, or the first refusal
abbrev pub each_axis : {T U : Type 0} → (T → Axis → Result U FigureRefusal) → PerAxis T →
    Result (PerAxis U) FigureRefusal
each_axis f p =
    and_then (f p.x axes.X) (λ x. and_then (f p.y axes.Y) (λ y. and_then (f p.z axes.Z) (λ z.
    Ok (record { x = x; y = y; z = z }))))

abbrev pub each_rate : Scale → ℕ → PerAxis Speed → Result (PerAxis ℕ) FigureRefusal
each_rate scale ticks feed = each_axis (axis_rate scale ticks) feed

abbrev pub greatest_of : PerAxis ℕ → ℕ
greatest_of rates = max (max rates.x rates.y) rates.z

-- a number that is not zero
abbrev pub some : FigureRefusal → ℕ → Result ℕ FigureRefusal
some refusal n = if n == 0 then Err refusal else Ok n

-- no motion is faster than the greatest rate, so the corner's rate is limited to it
abbrev pub corner_of : Scale → ℕ → ℕ → Speed → Result ℕ FigureRefusal
corner_of scale ticks most speed =
    some refusals.SlowCorner (min (rate_of scale ticks speed) most)

-- the jump is the corner's rate, unless a speed is specified
abbrev pub jump_of : Scale → ℕ → ℕ → Option Speed → ℕ
jump_of scale ticks corner None = corner
jump_of scale ticks corner (Some speed) = min (rate_of scale ticks speed) 1000000

-- the speed that the jump is requested to have
abbrev pub speed_or : Speed → Option Speed → Speed
speed_or otherwise None = otherwise
speed_or otherwise (Some speed) = speed

abbrev pub jump_speed : Figures → Speed
jump_speed f = speed_or f.corner f.jump

-- the change that an axis can follow, at most a step per tick in each tick
abbrev pub limited_change : Scale → ℕ → Acceleration → Result ℕ FigureRefusal
limited_change scale ticks a =
    some refusals.LowAcceleration
    (min (change_of scale ticks a.nanometres_a_second_squared) 1000000)

abbrev pub each_change : Scale → ℕ → PerAxis Acceleration → Result (PerAxis ℕ) FigureRefusal
each_change scale ticks accelerations =
    each_axis (λ a axis. limited_change scale ticks a) accelerations

-- one change serves all axes: the one that the slowest axis can follow
abbrev pub least_of : PerAxis ℕ → ℕ
least_of changes = min (min changes.x changes.y) changes.z

-- an acceleration above 4,400 m/s^2 counts as that
abbrev pub on_arcs : ℕ → ℕ
on_arcs acceleration = min acceleration 4400000000000

abbrev pub limited_turn : Bool → Scale → ℕ → ℕ → Result ℕ FigureRefusal
limited_turn by_place scale ticks acceleration =
    some refusals.LowArcs (min (turn_of by_place scale ticks (on_arcs acceleration)) 1000000000000)

abbrev pub arcs_by : ℕ → Option Acceleration → ℕ
arcs_by otherwise None = otherwise
arcs_by otherwise (Some a) = a.nanometres_a_second_squared

-- the greatest acceleration towards the centre of an arc: the one specified, or that of the slowest
-- axis
abbrev pub arcs_of : Figures → ℕ
arcs_of f = arcs_by (least f.acceleration) f.arcs

-- the turn of each axis: the same with the acceleration specified, or with that of the axis
abbrev pub each_turn : Scale → ℕ → Figures → Result (PerAxis ℕ) FigureRefusal
each_turn scale ticks f =
    each_axis (λ a axis. limited_turn f.arc_feed scale ticks
    (arcs_by a.nanometres_a_second_squared f.arcs)) f.acceleration

-- the rates of some figures, or the first that is refused
abbrev pub rates_of : Scale → Figures → Result Rates FigureRefusal
rates_of scale f =
    and_then (ticks_of scale f) (λ ticks.
    and_then (each_rate scale ticks f.feed) (λ rates.
    and_then (corner_of scale ticks (greatest_of rates) f.corner) (λ corner.
    and_then (each_change scale ticks f.acceleration) (λ changes.
    and_then (limited_turn f.arc_feed scale ticks (arcs_of f)) (λ turn.
    and_then (each_turn scale ticks f) (λ turns.
    Ok (record {
      ticks = ticks;
      axis_rate = rates;
      max_rate = greatest_of rates;
      change = least_of changes;
      changes = changes;
      corner = corner;
      turn = turn;
      turns = turns;
      jump = jump_of scale ticks corner f.jump;
    })))))))
