use Rattle.std.proofs.Common.{◌≡◌, drop, map}
use Rattle.ngc_machine_files.specs.Numbers.{all_different}
use Rattle.ngc_machine_files.specs.ToolText.{numbers_of, tool_number}
use Rattle.ngc_machine_files.proofs.tool_ranges.are_different.Given as goal

abbrev pub invariant-loop-i : goal.invariant-loop-i
invariant-loop-i l =
    all_different (map tool_number (map numbers_of l.tools)) ≡ all_different (map tool_number (map numbers_of (drop l.i l.tools)))
