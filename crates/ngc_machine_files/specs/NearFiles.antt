-- Files of versions 1 and 2 describe no far machine. Our own.
use Rattle.std.specs.Prelude.{◌≡◌, ℕ, List, Ok, false}
use Rattle.ngc_machine_files.specs.Machine.{MachineFile}
use Rattle.ngc_machine_files.specs.MachineRanges.{is_far}
use Rattle.ngc_machine_files.specs.MachineText.{machine_file}

abbrev pub NearFiles : Type 0
NearFiles = (bytes : List ℕ) (m : MachineFile) → machine_file bytes ≡ Ok m → is_far m ≡ false
