use Rattle.std.proofs.Common.{◌≡◌}
use Rattle.std.specs.Prelude.{drop}
use Rattle.std.specs.List.{find}
use Rattle.ngc_machine_files.specs.Machine.{file_of}
use Rattle.ngc_place.specs.Longest.{fit_at, tried}
use Rattle.ngc_place.proofs.search.nearest.Given as goal

abbrev pub invariant-loop-index : goal.invariant-loop-index
invariant-loop-index g l =
    find (fit_at (file_of l.machine) l.cuts l.axis l.programs) tried
    ≡ find (fit_at (file_of l.machine) l.cuts l.axis l.programs) (drop l.index tried)
