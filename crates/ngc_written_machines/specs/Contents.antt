-- The contents of a machine file of what is written in one of version 3. Our own.
use Rattle.std.specs.Prelude.{ℕ, ℤ, pos, Bool, true, List, map, Option, Some, None}
use Rattle.ngc_quantities.specs.declared.range.Place.{Place}
use Rattle.ngc_quantities.specs.declared.range.Range.{Range}
use Rattle.ngc_motors.specs.declared.step.MotorSteps.{MotorSteps}
use Rattle.ngc_machine_figures.specs.declared.sheet.HeadSheet.{HeadSheet}
use Rattle.ngc_machine_figures.specs.declared.sheet.Length.{Length}
use Rattle.ngc_machine_figures.specs.declared.sheet.PlaceSheet.{PlaceSheet}
use Rattle.ngc_machine_figures.specs.Files.{SheetValues}
use Rattle.ngc_machine_files.specs.declared.machine_contents.Coordinates.{Coordinates}
use Rattle.ngc_machine_files.specs.declared.machine_contents.LimitNumbers.{LimitNumbers}
use Rattle.ngc_machine_files.specs.declared.machine_contents.MachineNumbers.{MachineNumbers}
use Rattle.ngc_machine_files.specs.declared.machine_contents.MachineOptions.{MachineOptions}
use Rattle.ngc_machine_files.specs.declared.machine_contents.MachinePoints.{MachinePoints}
use Rattle.ngc_machine_files.specs.declared.machine_contents.OptionalNumbers.{OptionalNumbers}
use Rattle.ngc_machine_files.specs.declared.machine.Rapids.{Rapids}
use Rattle.ngc_machine_files.specs.declared.machine.Rapids.TheVariants.{Straight}
use Rattle.ngc_machine_files.specs.MachineText.{MachineValues}
use Rattle.ngc_machine_maker.specs.declared.figures.PerAxis.{PerAxis}
use Rattle.ngc_machine_maker.specs.declared.numbers.MachineNumbers as maker
use Rattle.ngc_machine_maker.specs.Formulas.{greatest_of}
use Rattle.ngc_written_machines.specs.Corners.{coordinates, place_on_grid, fixture, stock}
use Rattle.ngc_written_machines.specs.Motors.{travel_ends}

abbrev pub or_zero : Option Length → ℤ
or_zero None = pos 0
or_zero (Some length) = length.nanometres

abbrev pub changer_number : Option Bool → ℤ
changer_number (Some true) = pos 1
changer_number _ = pos 0

-- arcs run at their feed and their turn, unless the file says otherwise
abbrev pub arc_feed_number : Option ℕ → ℤ
arc_feed_number None = pos 2
arc_feed_number (Some n) = pos n

abbrev pub optional_numbers : HeadSheet → maker.MachineNumbers → OptionalNumbers
optional_numbers s rates = record {
  jump = pos rates.jump;
  ring = pos rates.ring;
  arc_feed = arc_feed_number s.control.arc_feed;
  changer = changer_number s.control.changer;
  margin = or_zero s.places.margin;
  travel_margin = or_zero s.places.travel_margin;
}

-- the machine's change is the greatest of the axes' changes, and its turn that of their turns
abbrev pub numbers : HeadSheet → maker.MachineNumbers → MachineNumbers
numbers s rates = record {
  version = pos 2;
  step = pos rates.step;
  ticks_per_second = pos rates.ticks_per_second;
  max_rate = pos rates.max_rate;
  change = pos (greatest_of rates.changes);
  corner = pos rates.corner;
  turn = pos (greatest_of rates.turns);
  optional = optional_numbers s rates;
}

-- traverses are straight, unless the file says otherwise
abbrev pub rapids : Option Rapids → Rapids
rapids None = Straight
rapids (Some way) = way

abbrev pub options : SheetValues → MachineOptions
options s = record {
  rapids = rapids s.head.places.rapids;
  dialect = s.head.control.dialect;
  stock = stock s.stock;
}

abbrev pub axis_rates : PerAxis ℕ → Coordinates
axis_rates r = record { x = pos r.x; y = pos r.y; z = pos r.z }

-- each axis has the change of its own acceleration, and the turn of that on arcs
abbrev pub own_limits : maker.MachineNumbers → LimitNumbers
own_limits rates =
    record { changes = axis_rates rates.changes; turns = axis_rates rates.turns }

-- a program starts at zero, unless the file says otherwise; the start is on the grid of the steps
abbrev pub start_at : ℕ → Option Place → Coordinates
start_at step None = record { x = pos 0; y = pos 0; z = pos 0 }
start_at step (Some place) = place_on_grid step place

abbrev pub start : ℕ → PlaceSheet → Coordinates
start step places = start_at step places.start

-- a home position is the start, unless the file says otherwise
abbrev pub home : Coordinates → Option Place → Coordinates
home start None = start
home start (Some place) = coordinates place

abbrev pub points : ℕ → PerAxis Range → PlaceSheet → MachinePoints
points step travel places = record {
  low = record { x = travel.x.low; y = travel.y.low; z = travel.z.low };
  high = record { x = travel.x.high; y = travel.y.high; z = travel.z.high };
  start = start step places;
  home28 = home (start step places) places.home28;
  home30 = home (start step places) places.home30;
  far = true;
}

-- an origin is zero, unless the file says otherwise
abbrev pub origin : Option Place → Coordinates
origin None = record { x = pos 0; y = pos 0; z = pos 0 }
origin (Some place) = coordinates place

-- what a machine file of version 2 has for a sheet, with the step and the rates of its figures, with
-- the step of each axis' motor, and with limits of each axis
abbrev pub values_by : SheetValues → MotorSteps → maker.MachineNumbers → MachineValues
values_by s own rates = record {
  numbers = numbers s.head rates;
  options = options s;
  motor_steps = own;
  axis_rates = axis_rates rates.axis_rate;
  own = Some (own_limits rates);
  points = points rates.step (travel_ends rates.step own s.head.axes) s.head.places;
  origins = map origin s.head.origins;
  fixtures = map fixture s.fixtures;
}
