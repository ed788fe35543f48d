-- The ranges that hold for every machine that is read, and which machines are far. Our own.
use Rattle.std.specs.Prelude.{Bool, ◌&&◌, ◌||◌, not, IfSome}
use Rattle.ngc_fixed_length.specs.Length.{IsStep}
use Rattle.ngc_fixed_length.specs.declared.points.Point3.{Point3}
use Rattle.ngc_motors.specs.Counts.{AreMotors}
use Rattle.ngc_machine_files.specs.Machine.{MachineFile, motors_of}
use Rattle.ngc_machine_files.specs.Ranges.{IsRate, IsJump, IsRing, AreRates, IsArcBound, IsTravel, AreFixtures, AreMargins}
use Rattle.ngc_machine_files.specs.Ranges.{AreLimits, is_near}

pub record IsMachine (m : MachineFile) : Type 0 where
  pub step : IsStep m.step
  pub motors : AreMotors (motors_of m)
  pub ticks_per_second : IsRate m.ticks_per_second
  pub max_rate : IsRate m.max_rate
  pub axis_rates : AreRates m.axis_rates
  pub change : IsRate m.change
  pub corner : IsRate m.corner
  pub jump : IsJump m.jump
  pub turn : IsArcBound m.turn
  pub own : IfSome m.own AreLimits
  pub ring : IsRing m.ring
  pub travel : IsTravel m.step m.low m.high m.start
  pub fixtures : AreFixtures m.fixtures
  pub margins : AreMargins m.margins

unfoldable pub ends_far : Point3 → Point3 → Bool
ends_far low high = not (is_near low && is_near high)

-- A machine is far if an end of its travel is over a metre from zero. On a far machine programs may
-- have coordinates of up to four metres, and on any other of up to a metre.
abbrev pub is_far : MachineFile → Bool
is_far m = ends_far m.low m.high

-- an origin may be moved up to four metres from zero on a far machine, and where it is over a metre
-- from zero already
unfoldable pub takes_far : MachineFile → Point3 → Bool
takes_far m origin = is_far m || not (is_near origin)
