use Rattle.std.proofs.Common.{◌≡◌, drop}
use Rattle.ngc_written_tools.specs.Repeats.{checked_numbers}
use Rattle.ngc_written_tools.proofs.numbers.check_numbers.Given as goal

abbrev pub invariant-loop-i : goal.invariant-loop-i
invariant-loop-i l = checked_numbers l.tools ≡ checked_numbers (drop l.i l.tools)
