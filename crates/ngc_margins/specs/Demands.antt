-- What the options of a call set in place of a machine file's keys. Our own.
use Rattle.std.specs.Prelude.{ℤ, pos, Option, None, IfSome, unwrap_or}
use Rattle.std.specs.Int.{int_max}
use Rattle.ngc_motors.specs.Counts.{slack}
use Rattle.ngc_machine_files.specs.Machine.{MachineFile, motors_of}
use Rattle.ngc_machine_files.specs.Ranges.{IsFrom, MARGIN_LIMIT}
use Rattle.ngc_machine_files.specs.declared.machine.Rapids.{Rapids}

pub record Demand : Type 0 where
  -- how far to keep from fixtures and from travel limits, in nanometres
  pub margin : Option ℤ
  pub travel_margin : Option ℤ
  -- the ways of a traverse
  pub rapids : Option Rapids

-- nothing is set: all keys stay
abbrev pub no_demands : Demand
no_demands = record { margin = None; travel_margin = None; rapids = None }

-- the margins are in the range of a machine file's
pub record AreDemands (d : Demand) : Type 0 where
  pub margin : IfSome d.margin (IsFrom (pos 0) MARGIN_LIMIT)
  pub travel_margin : IfSome d.travel_margin (IsFrom (pos 0) MARGIN_LIMIT)

-- The margin to fixtures: at least what the motors may stand away from the path, whatever the file
-- and the options say.
abbrev pub fixture_margin : Demand → MachineFile → ℤ
fixture_margin d m = int_max (slack (motors_of m)) (unwrap_or d.margin m.margins.fixtures)

-- the contents of a machine file, with these values in place of its own
abbrev pub set_in : Demand → MachineFile → MachineFile
set_in d m = record m {
  margins = record {
    fixtures = fixture_margin d m;
    travel = unwrap_or d.travel_margin m.margins.travel;
  };
  rapids = unwrap_or d.rapids m.rapids;
}
