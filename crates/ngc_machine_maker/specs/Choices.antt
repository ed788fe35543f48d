-- The optional settings of a machine, besides its figures.
use Rattle.std.specs.Borrow.{Bor}
use Rattle.std.specs.Prelude.{ℕ, ◌==◌, List, drop, Option, Some, None, Result, Ok, option_and_then}
use Rattle.std.specs.Prelude.{◌||◌, ◌&&◌, not, if◌then◌else◌}
use Rattle.ngc_machine_maker.specs.declared.choices.Choices.{Choices}
use Rattle.ngc_machine_maker.specs.declared.figures.Acceleration.{Acceleration}
use Rattle.ngc_machine_maker.specs.declared.figures.End.{End}
use Rattle.ngc_machine_maker.specs.declared.figures.End.TheVariants as ends
use Rattle.ngc_machine_maker.specs.declared.figures.Figures.{Figures}
use Rattle.ngc_machine_maker.specs.declared.figures.Length.{Length}
use Rattle.ngc_machine_maker.specs.declared.figures.PerAxis.{PerAxis}
use Rattle.ngc_machine_maker.specs.declared.figures.Speed.{Speed}
use Rattle.ngc_machine_maker.specs.declared.refusal.Field.TheVariants as fields
use Rattle.ngc_machine_maker.specs.declared.refusal.FigureRefusal.{FigureRefusal}
use Rattle.ngc_machine_maker.specs.declared.refusal.Stop.{Stop}
use Rattle.ngc_machine_maker.specs.declared.refusal.Stop.TheVariants as stops
use Rattle.ngc_machine_maker.specs.Decimals.{begins, number_in, three_texts, three_by}
use Rattle.ngc_machine_maker.specs.Formulas.{and_then}
use Rattle.ngc_machine_maker.specs.Motors.{checked_motors}
use Rattle.ngc_machine_maker.specs.Options.{each_of, length_of, acceleration_of, read_by}
use Rattle.ngc_machine_maker.specs.Options.{second_speed_in}

-- a speed in millimetres per second
abbrev pub corner_by : Speed → Option (Bor (List ℕ)) → Result Speed FigureRefusal
corner_by otherwise None = Ok otherwise
corner_by otherwise (Some text) = second_speed_in fields.Corner text.now

abbrev pub some_speed : Speed → Result (Option Speed) FigureRefusal
some_speed speed = Ok (Some speed)

abbrev pub jump_by : Option Speed → Option (Bor (List ℕ)) → Result (Option Speed) FigureRefusal
jump_by otherwise None = Ok otherwise
jump_by otherwise (Some text) = and_then (second_speed_in fields.Jump text.now) some_speed

abbrev pub some_acceleration : ℕ → Option Acceleration
some_acceleration n = Some (acceleration_of n)

abbrev pub arcs_in : List ℕ → Result (Option Acceleration) FigureRefusal
arcs_in text = read_by fields.Arcs some_acceleration (number_in 3 text)

abbrev pub arcs_by : Option Acceleration → Option (Bor (List ℕ)) →
    Result (Option Acceleration) FigureRefusal
arcs_by otherwise None = Ok otherwise
arcs_by otherwise (Some text) = arcs_in text.now

abbrev pub some_ticks : ℕ → Option ℕ
some_ticks n = Some n

abbrev pub ticks_in : List ℕ → Result (Option ℕ) FigureRefusal
ticks_in text = read_by fields.Ticks some_ticks (number_in 0 text)

abbrev pub ticks_by : Option ℕ → Option (Bor (List ℕ)) → Result (Option ℕ) FigureRefusal
ticks_by otherwise None = Ok otherwise
ticks_by otherwise (Some text) = ticks_in text.now

abbrev pub commands : ℕ → ℕ
commands n = n

abbrev pub ring_in : List ℕ → Result ℕ FigureRefusal
ring_in text = read_by fields.Ring commands (number_in 0 text)

abbrev pub ring_by : ℕ → Option (Bor (List ℕ)) → Result ℕ FigureRefusal
ring_by otherwise None = Ok otherwise
ring_by otherwise (Some text) = ring_in text.now

-- ---- places, by their coordinates in millimetres: if zero is at the high end of an axis, its
-- other coordinates have a minus sign

abbrev pub zero_alone : ℕ → Option ℕ
zero_alone n = if n == 0 then Some 0 else None

abbrev pub zero_in : List ℕ → Option ℕ
zero_in text = option_and_then zero_alone (number_in 6 text)

-- the distance of a coordinate from zero, into the travel
abbrev pub distance_in : End → List ℕ → Option ℕ
distance_in ends.Low text = number_in 6 text
distance_in ends.High text =
    if begins 45 text then number_in 6 (drop 1 text) else zero_in text

abbrev pub distances_in : PerAxis End → List ℕ → Option (PerAxis ℕ)
distances_in zero text =
    three_by (distance_in zero.x (three_texts text).x) (distance_in zero.y (three_texts text).y)
    (distance_in zero.z (three_texts text).z)

abbrev pub place_in : PerAxis End → Stop → List ℕ → Result (PerAxis Length) FigureRefusal
place_in zero stop text = read_by (fields.Stop stop) (each_of length_of) (distances_in zero text)

abbrev pub start_by : PerAxis End → PerAxis Length → Option (Bor (List ℕ)) →
    Result (PerAxis Length) FigureRefusal
start_by zero otherwise None = Ok otherwise
start_by zero otherwise (Some text) = place_in zero stops.Start text.now

abbrev pub some_place : PerAxis Length → Result (Option (PerAxis Length)) FigureRefusal
some_place place = Ok (Some place)

abbrev pub home_by : PerAxis End → Stop → Option (PerAxis Length) → Option (Bor (List ℕ)) →
    Result (Option (PerAxis Length)) FigureRefusal
home_by zero stop otherwise None = Ok otherwise
home_by zero stop otherwise (Some text) = and_then (place_in zero stop text.now) some_place

-- ---- the figures with the choices

abbrev pub chosen : Figures → Choices → Result Figures FigureRefusal
chosen f choices =
    and_then (corner_by f.corner choices.corner) (λ corner.
    and_then (jump_by f.jump choices.jump) (λ jump.
    and_then (arcs_by f.arcs choices.arcs) (λ arcs.
    and_then (ticks_by f.ticks choices.ticks) (λ ticks.
    and_then (ring_by f.ring choices.ring) (λ ring.
    and_then (start_by f.zero f.start choices.start) (λ start.
    and_then (home_by f.zero stops.Home28 f.home28 choices.home28) (λ home28.
    and_then (home_by f.zero stops.Home30 f.home30 choices.home30) (λ home30.
    and_then (checked_motors choices.rates f.motors) (λ motors.
    Ok (record {
      scale = f.scale;
      motors = motors;
      travel = f.travel;
      feed = f.feed;
      acceleration = f.acceleration;
      corner = corner;
      jump = jump;
      arcs = arcs;
      ticks = ticks;
      ring = ring;
      arc_feed = f.arc_feed || choices.arc_feed;
      far = f.far && not choices.rates;
      grbl = f.grbl;
      zero = f.zero;
      start = start;
      home28 = home28;
      home30 = home30;
      dump = f.dump;
    }))))))))))
