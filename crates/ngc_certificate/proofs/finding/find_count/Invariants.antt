use Rattle.std.proofs.Common.{◌≡◌}
use Rattle.std.specs.Prelude.{drop}
use Rattle.ngc_machine_files.specs.Machine.{file_of}
use Rattle.ngc_certificate.specs.Made.{cleared, powers_of_two}
use Rattle.ngc_certificate.proofs.TriedCuts.{cleared_from}
use Rattle.ngc_certificate.proofs.finding.find_count.Given as goal

abbrev pub invariant-loop-count : goal.invariant-loop-count
invariant-loop-count g l =
    cleared (file_of l.machine) l.most l.tool l.way ≡ cleared_from (file_of l.machine) l.most l.tool l.way (drop l.count-index powers_of_two)
