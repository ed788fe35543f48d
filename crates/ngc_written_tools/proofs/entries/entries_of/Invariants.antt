use Rattle.std.proofs.Common.{◌≡◌, take, map}
use Rattle.ngc_machine_files.specs.ToolText.{numbers_of}
use Rattle.ngc_written_tools.specs.Entries.{entry_of}
use Rattle.ngc_written_tools.proofs.entries.entries_of.Given as goal

abbrev pub invariant-loop-tool : goal.invariant-loop-tool
invariant-loop-tool l = map numbers_of l.entries.items ≡ map entry_of (take l.tool-index l.tools)
