-- The machine of a call of the program is fit for its motors. Our own.
use Rattle.std.specs.Prelude.{◌≡◌, ℕ, List, Ok}
use Rattle.ngc_machine_files.specs.Machine.{MachineFile, built_in_machine}
use Rattle.ngc_margins.specs.Changes.{changed}
use Rattle.ngc_margins.specs.Demands.{AreDemands}
use Rattle.ngc_margins.specs.Margins.{with_margins}
use Rattle.ngc_margins.specs.declared.changes.Changes.{Changes}
use Rattle.ngc_written_machines.specs.Reading.{any_machine}
use Rattle.ngc_motor_laws.specs.Commanded.{FitsMotors}

-- the machine that results from the options of a call is one with its margins kept, and these margins
-- and its travel are fit for its motors
pub record IsFit (met : MachineFile) : Type 0 where
  pub machine : MachineFile
  pub kept : met ≡ with_margins machine
  pub fits : FitsMotors machine

-- with a machine file of any version
abbrev pub FilesFit : Type 0
FilesFit = (bytes : List ℕ) (m met : MachineFile) (c : Changes) → AreDemands c.demands →
    any_machine bytes ≡ Ok m → changed c m ≡ Ok met → IsFit met

-- and without one
abbrev pub BuiltInFits : Type 0
BuiltInFits = (met : MachineFile) (c : Changes) → AreDemands c.demands →
    changed c built_in_machine ≡ Ok met → IsFit met
