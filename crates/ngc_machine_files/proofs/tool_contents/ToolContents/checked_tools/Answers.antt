use Rattle.std.proofs.Common.{sym, ◌∙◌}
use Rattle.ngc_machine_files.specs.ToolText.{values_of}
use Rattle.ngc_machine_files.proofs.GoodFiles.{AreEntries-from_ranges}
use Rattle.ngc_machine_files.proofs.tool_contents.ToolContents.checked_tools.Goals as goal

pub tools-requires : goal.tools-requires
tools-requires c = AreEntries-from_ranges (values_of c.args.self.now) (sym c.check.ensures ∙ c.in_ok-check.was)
