-- What the options of a call replace in a machine file, and what they add to it. Our own.
use Rattle.std.specs.Prelude.{Result, Ok, Err}
use Rattle.ngc_added_boxes.specs.Boxes.{no_boxes}
use Rattle.ngc_added_boxes.specs.Placing.{boxed}
use Rattle.ngc_machine_files.specs.Machine.{MachineFile}
use Rattle.ngc_machine_files.specs.declared.fault.FileFault.{FileFault}
use Rattle.ngc_origins.specs.Placed.{placed}
use Rattle.ngc_origins.specs.Texts.{no_origins}
use Rattle.ngc_margins.specs.Demands.{Demand, no_demands}
use Rattle.ngc_margins.specs.Margins.{demanded}
use Rattle.ngc_margins.specs.declared.changes.Changes.{Changes}

abbrev pub no_changes : Changes
no_changes = record { origins = no_origins; boxes = no_boxes; demands = no_demands }

abbrev pub and_demanded : Demand → Result MachineFile FileFault → Result MachineFile FileFault
and_demanded d (Ok m) = demanded d m
and_demanded d (Err e) = Err e

-- the machine that the call is about, or why it is refused: first its origins are replaced, then the
-- boxes are added in their coordinate systems, and then the margins are kept
abbrev pub changed : Changes → MachineFile → Result MachineFile FileFault
changed c m = and_demanded c.demands (boxed c.boxes (placed c.origins m))
