use Rattle.std.proofs.Common.{◌≡◌, drop, map}
use Rattle.std.specs.List.{list_all}
use Rattle.ngc_machine_files.specs.ToolText.{numbers_of, good_tool}
use Rattle.ngc_machine_files.proofs.tool_ranges.is_each_tool_good.Given as goal

abbrev pub invariant-loop-tool : goal.invariant-loop-tool
invariant-loop-tool l =
    list_all good_tool (map numbers_of l.tools) ≡ list_all good_tool (map numbers_of (drop l.tool-index l.tools))
