use Rattle.std.proofs.Common.{◌≡◌, drop, map}
use Rattle.std.specs.List.{list_any}
use Rattle.ngc_collision.specs.Inside.{solid_of}
use Rattle.ngc_machine_files.specs.Machine.{file_of}
use Rattle.ngc_findings.specs.Warnings.{is_low}
use Rattle.ngc_findings.proofs.warnings.is_any_low.Given as goal

abbrev pub invariant-loop-solid : goal.invariant-loop-solid
invariant-loop-solid g l =
    list_any (is_low (file_of l.machine)) (map solid_of l.solids) ≡ list_any (is_low (file_of l.machine)) (map solid_of (drop l.solid-index l.solids))
