use Rattle.std.proofs.Common.{◌≡◌}
use Rattle.ngc_machine_files.specs.Machine.{file_of}
use Rattle.ngc_place.specs.Holds.{holds}
use Rattle.ngc_place.proofs.Tests.{rest_holds}
use Rattle.ngc_place.proofs.fits.holds.Given as goal

abbrev pub invariant-loop-index : goal.invariant-loop-index
invariant-loop-index g l =
    holds (file_of l.machine) l.cuts l.shifts l.moving l.commands
    ≡ rest_holds (file_of l.machine) l.cuts l.shifts l.reached l.moves l.moving l.commands l.index
