use Rattle.std.proofs.Common.{◌≡◌, drop, map}
use Rattle.ngc_machine_files.specs.Numbers.{has_number}
use Rattle.ngc_machine_files.specs.ToolText.{numbers_of, tool_number}
use Rattle.ngc_machine_files.proofs.tool_ranges.has_number.Given as goal

abbrev pub invariant-loop-tool : goal.invariant-loop-tool
invariant-loop-tool l =
    has_number l.number (map tool_number (map numbers_of l.tools)) ≡ has_number l.number (map tool_number (map numbers_of (drop l.tool-index l.tools)))
