use Rattle.std.proofs.Common.{◌≡◌, drop}
use Rattle.ngc_machine_files.specs.Machine.{file_of}
use Rattle.ngc_place.specs.Longest.{all_hold}
use Rattle.ngc_place.proofs.programs.all_hold.Given as goal

abbrev pub invariant-loop-program : goal.invariant-loop-program
invariant-loop-program g l =
    all_hold (file_of l.machine) l.cuts l.shifts l.programs ≡ all_hold (file_of l.machine) l.cuts l.shifts (drop l.program-index l.programs)
