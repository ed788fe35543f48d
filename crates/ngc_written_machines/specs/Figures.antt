-- The figures of a machine of what is written in its file. Our own.
use Rattle.std.specs.Prelude.{ℕ, ◌*◌, ◌/◌, ◌==◌, min, max, ◌-ℤ◌, int_lt, unsigned_abs}
use Rattle.std.specs.Prelude.{Bool, true, false, Option, Some, None, if◌then◌else◌}
use Rattle.ngc_quantities.specs.declared.range.Range.{Range}
use Rattle.ngc_machine_figures.specs.declared.sheet.Acceleration as written_acceleration
use Rattle.ngc_machine_figures.specs.declared.sheet.AxesSheet.{AxesSheet}
use Rattle.ngc_machine_figures.specs.declared.sheet.ControlSheet.{ControlSheet}
use Rattle.ngc_machine_figures.specs.declared.sheet.HeadSheet.{HeadSheet}
use Rattle.ngc_machine_figures.specs.declared.sheet.Speed as written_speed
use Rattle.ngc_machine_maker.specs.declared.figures.Acceleration.{Acceleration}
use Rattle.ngc_machine_maker.specs.declared.figures.End.TheVariants as ends
use Rattle.ngc_machine_maker.specs.declared.figures.Figures.{Figures}
use Rattle.ngc_machine_maker.specs.declared.figures.Length.{Length}
use Rattle.ngc_machine_maker.specs.declared.figures.PerAxis.{PerAxis}
use Rattle.ngc_machine_maker.specs.declared.figures.Speed.{Speed}
use Rattle.ngc_machine_maker.specs.declared.figures.StepsPerMillimetre.{StepsPerMillimetre}
use Rattle.ngc_machine_maker.specs.Formulas.{no_dump}

-- the length of a travel: 0 if it ends below its beginning, and 2^32 - 1 nm if it is longer, which
-- is too long
abbrev pub travel_length : Range → ℕ
travel_length r =
    if int_lt r.high r.low then 0 else min (unsigned_abs (r.high -ℤ r.low)) 4294967295

abbrev pub travels : AxesSheet → PerAxis Length
travels a = record {
  x = record { nanometres = travel_length a.x.travel };
  y = record { nanometres = travel_length a.y.travel };
  z = record { nanometres = travel_length a.z.travel };
}

abbrev pub speed : written_speed.Speed → Speed
speed s = record { nanometres_a_minute = s.nanometres_a_minute }

abbrev pub feeds : AxesSheet → PerAxis Speed
feeds a = record { x = speed a.x.speed; y = speed a.y.speed; z = speed a.z.speed }

abbrev pub acceleration : written_acceleration.Acceleration → Acceleration
acceleration a = record { nanometres_a_second_squared = a.nanometres_a_second_squared }

abbrev pub accelerations : AxesSheet → PerAxis Acceleration
accelerations a = record {
  x = acceleration a.x.acceleration;
  y = acceleration a.y.acceleration;
  z = acceleration a.z.acceleration;
}

abbrev pub least : AxesSheet → ℕ
least a =
    min (min a.x.acceleration.nanometres_a_second_squared a.y.acceleration.nanometres_a_second_squared)
    a.z.acceleration.nanometres_a_second_squared

-- the corner speed: what the axis with the least acceleration reaches in 5 ms, and at least 2 mm/s
abbrev pub usual_corner : AxesSheet → Speed
usual_corner a = record { nanometres_a_minute = max (least a * 3 / 10) 120000000 }

abbrev pub corner_by : AxesSheet → Option written_speed.Speed → Speed
corner_by a None = usual_corner a
corner_by a (Some s) = speed s

abbrev pub corner : ControlSheet → AxesSheet → Speed
corner c a = corner_by a c.corner

abbrev pub jump_by : Option written_speed.Speed → Option Speed
jump_by None = None
jump_by (Some s) = Some (speed s)

abbrev pub jump : ControlSheet → Option Speed
jump c = jump_by c.jump

abbrev pub arcs_by : Option written_acceleration.Acceleration → Option Acceleration
arcs_by None = None
arcs_by (Some a) = Some (acceleration a)

abbrev pub arcs : ControlSheet → Option Acceleration
arcs c = arcs_by c.turn

abbrev pub ring_by : Option ℕ → ℕ
ring_by None = 256
ring_by (Some n) = n

abbrev pub ring : ControlSheet → ℕ
ring c = ring_by c.ring

-- the turn of arcs holds at every place, unless the file says otherwise
abbrev pub by_place : Option ℕ → Bool
by_place None = true
by_place (Some n) = n == 2

abbrev pub turns_by_place : ControlSheet → Bool
turns_by_place c = by_place c.arc_feed

abbrev pub no_length : Length
no_length = record { nanometres = 0 }

abbrev pub no_steps : StepsPerMillimetre
no_steps = record { millionths = 0 }

-- only the rates of these figures count, which are in steps of the path's grid: the motors have no
-- steps, and the machine starts at the low end of each travel
abbrev pub figures_of : HeadSheet → ℕ → Figures
figures_of h grid = record {
  scale = record { steps = 1; per = grid };
  motors = record { x = no_steps; y = no_steps; z = no_steps };
  travel = travels h.axes;
  feed = feeds h.axes;
  acceleration = accelerations h.axes;
  corner = corner h.control h.axes;
  jump = jump h.control;
  arcs = arcs h.control;
  ticks = h.control.ticks;
  ring = ring h.control;
  arc_feed = turns_by_place h.control;
  far = true;
  grbl = false;
  zero = record { x = ends.Low; y = ends.Low; z = ends.Low };
  start = record { x = no_length; y = no_length; z = no_length };
  home28 = None;
  home30 = None;
  dump = no_dump;
}
