use Rattle.std.proofs.Common.{◌≡◌, ◌+◌, drop}
use Rattle.ngc_run_through.specs.Parts.{part_length}
use Rattle.ngc_run_through.proofs.timing.part_length.Given as goal

abbrev pub invariant-loop-i : goal.invariant-loop-i
invariant-loop-i l = part_length l.commands ≡ l.i + part_length (drop l.i l.commands)
