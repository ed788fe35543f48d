-- The numbers of a machine file, from the figures of a machine.
use Rattle.std.specs.Prelude.{ℕ, ◌||◌, nat_lt, Result, Ok, Err, if◌then◌else◌}
use Rattle.ngc_machine_maker.specs.declared.figures.Figures.{Figures}
use Rattle.ngc_machine_maker.specs.declared.numbers.MachineNumbers.{MachineNumbers}
use Rattle.ngc_machine_maker.specs.declared.numbers.Steps.{Steps}
use Rattle.ngc_machine_maker.specs.declared.rates.Rates.{Rates}
use Rattle.ngc_machine_maker.specs.declared.refusal.FigureRefusal.{FigureRefusal}
use Rattle.ngc_machine_maker.specs.declared.refusal.FigureRefusal.TheVariants as refusals
use Rattle.ngc_machine_maker.specs.declared.refusal.Stop.TheVariants as stops
use Rattle.ngc_machine_maker.specs.declared.scale.Scale.{Scale}
use Rattle.ngc_machine_maker.specs.Formulas.{and_then, scale_of, rates_of}
use Rattle.ngc_machine_maker.specs.Places.{travels_of, stops_of, stops_by, lows_of, highs_of}
use Rattle.ngc_machine_maker.specs.Places.{place_of}

-- the travel and the stops, in steps
abbrev pub placed : Scale → Figures → Result Steps FigureRefusal
placed scale f =
    and_then (travels_of scale f.far f.travel) (λ travel.
    and_then (stops_of scale travel f.travel stops.Start f.start) (λ start.
    and_then (stops_by scale travel f.travel stops.Home28 start f.home28) (λ home28.
    and_then (stops_by scale travel f.travel stops.Home30 start f.home30) (λ home30.
    Ok (record { travel = travel; start = start; home28 = home28; home30 = home30 })))))

-- a ring is from 16 to 1,024 commands
abbrev pub ring_of : ℕ → Result ℕ FigureRefusal
ring_of ring = if nat_lt ring 16 || nat_lt 1024 ring then Err refusals.Ring else Ok ring

abbrev pub numbers_by : Figures → Scale → Rates → Steps → ℕ → MachineNumbers
numbers_by f scale rates steps ring =
    record {
      step = scale.step;
      ticks_per_second = rates.ticks;
      max_rate = rates.max_rate;
      change = rates.change;
      changes = rates.changes;
      corner = rates.corner;
      turn = rates.turn;
      turns = rates.turns;
      axis_rate = rates.axis_rate;
      jump = rates.jump;
      ring = ring;
      arc_feed = f.arc_feed;
      low = lows_of scale f.zero steps.travel;
      high = highs_of scale f.zero steps.travel;
      start = place_of scale f.zero steps.start;
      home28 = place_of scale f.zero steps.home28;
      home30 = place_of scale f.zero steps.home30;
    }

-- the numbers, or the first refusal
abbrev pub numbers_of : Figures → Result MachineNumbers FigureRefusal
numbers_of f =
    and_then (scale_of f.scale) (λ scale.
    and_then (rates_of scale f) (λ rates.
    and_then (placed scale f) (λ steps.
    and_then (ring_of f.ring) (λ ring.
    Ok (numbers_by f scale rates steps ring)))))
