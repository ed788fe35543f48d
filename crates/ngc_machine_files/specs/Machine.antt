-- The contents of a machine file, and the machine that is used without one. Our own.
use Rattle.std.specs.Prelude.{ℕ, ℤ, pos, negsuc, List, [], Option, None, Bool, false}
use Rattle.std.specs.Prelude.{replicate}
use Rattle.ngc_fixed_length.specs.Places.{zero_point}
use Rattle.ngc_fixed_length.specs.declared.points.Point3.{Point3}
use Rattle.ngc_machine_files.specs.declared.machine.ArcFeed.{ArcFeed}
use Rattle.ngc_machine_files.specs.declared.machine.ArcFeed.TheVariants.{Off}
use Rattle.ngc_machine_files.specs.declared.machine.AxisLimits.{AxisLimits}
use Rattle.ngc_machine_files.specs.declared.machine.AxisRates.{AxisRates}
use Rattle.ngc_machine_files.specs.declared.machine.Fixture.{Fixture}
use Rattle.ngc_machine_files.specs.declared.machine.Machine.{Machine}
use Rattle.ngc_machine_files.specs.declared.machine.Margins.{Margins}
use Rattle.ngc_machine_files.specs.declared.machine.Rapids.{Rapids}
use Rattle.ngc_machine_files.specs.declared.machine.StockBox.{StockBox}
use Rattle.ngc_dialect_names.specs.declared.dialect.Dialect.{Dialect}
use Rattle.ngc_motors.specs.Counts.{MotorData, equal_steps}
use Rattle.ngc_motors.specs.declared.step.MotorSteps.{MotorSteps}
use Rattle.ngc_machine_files.specs.declared.machine.Rapids.TheVariants.{Straight}

pub record MachineFile : Type 0 where
  pub step : ℤ
  -- the step of each motor
  pub motor_steps : MotorSteps
  pub ticks_per_second : ℕ
  pub max_rate : ℕ
  pub axis_rates : AxisRates
  pub change : ℕ
  pub corner : ℕ
  pub jump : ℕ
  pub turn : ℕ
  -- the limits of each axis, if they are known
  pub own : Option AxisLimits
  pub ring : ℕ
  pub arc_feed : ArcFeed
  pub changer : Bool
  pub low : Point3
  pub high : Point3
  pub start : Point3
  pub home28 : Point3
  pub home30 : Point3
  pub origins : List Point3
  pub fixtures : List Fixture
  pub margins : Margins
  pub rapids : Rapids
  pub dialect : Option Dialect
  pub stock : Option StockBox

-- the contents of a machine
abbrev pub file_of : {A : Type 0} → Machine A → MachineFile
file_of m = record {
  step = m.step;
  motor_steps = m.motor_steps;
  ticks_per_second = m.ticks_per_second;
  max_rate = m.max_rate;
  axis_rates = m.axis_rates;
  change = m.change;
  corner = m.corner;
  jump = m.jump;
  turn = m.turn;
  own = m.own;
  ring = m.ring;
  arc_feed = m.arc_feed;
  changer = m.changer;
  low = m.low;
  high = m.high;
  start = m.start;
  home28 = m.home28;
  home30 = m.home30;
  origins = m.origins;
  fixtures = m.fixtures.items;
  margins = m.margins;
  rapids = m.rapids;
  dialect = m.dialect;
  stock = m.stock;
}

-- its motors
abbrev pub motors_of : MachineFile → MotorData
motors_of m = record { grid = m.step; steps = m.motor_steps }

-- a small mill of 300 mm by 300 mm by 100 mm, with steps of 0.01 mm and no fixture
abbrev pub built_in_machine : MachineFile
built_in_machine = record {
  step = pos 10000;
  motor_steps = equal_steps 10000;
  ticks_per_second = 10000;
  max_rate = 400000;
  axis_rates = record { x = 1000000; y = 1000000; z = 1000000 };
  change = 1000;
  corner = 50000;
  jump = 0;
  turn = 1000000000;
  own = None;
  ring = 16;
  arc_feed = Off;
  changer = false;
  low = record { x = pos 0; y = pos 0; z = negsuc 99999999 };
  high = record { x = pos 300000000; y = pos 300000000; z = pos 0 };
  start = zero_point;
  home28 = zero_point;
  home30 = zero_point;
  origins = replicate 9 zero_point;
  fixtures = [];
  margins = record { fixtures = pos 0; travel = pos 0 };
  rapids = Straight;
  dialect = None;
  stock = None;
}
