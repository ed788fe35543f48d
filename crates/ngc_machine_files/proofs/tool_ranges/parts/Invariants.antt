use Rattle.std.proofs.Common.{◌≡◌, ◌++◌, map, take}
use Rattle.ngc_machine_files.specs.ToolText.{part_of}
use Rattle.ngc_machine_files.proofs.tool_ranges.parts.Given as goal

abbrev pub invariant-loop-entry : goal.invariant-loop-entry
invariant-loop-entry l = l.parts ≡ l.initial.parts ++ map part_of (take l.entry-index l.entry-items)
