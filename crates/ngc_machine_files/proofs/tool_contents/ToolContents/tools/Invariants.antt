use Rattle.std.proofs.Common.{◌≡◌, take, map}
use Rattle.ngc_machine_files.specs.ToolText.{numbers_of, tool_of}
use Rattle.ngc_machine_files.proofs.tool_contents.ToolContents.tools.Given as goal

abbrev pub invariant-loop-entry : goal.invariant-loop-entry
invariant-loop-entry l = l.tools.items ≡ map tool_of (map numbers_of (take l.entry-index l.self.tools.items))
