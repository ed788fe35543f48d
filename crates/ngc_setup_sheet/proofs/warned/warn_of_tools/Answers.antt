use Rattle.ngc_sentences.proofs.Said.{less_left}
use Rattle.ngc_setup_sheet.proofs.WarningsAlone.{next_tool_warned}
use Rattle.ngc_setup_sheet.proofs.warned.warn_of_tools.Goals as goal

pub loop-tool-preserved : goal.loop-tool-preserved
loop-tool-preserved g c =
    less_left _ _ (next_tool_warned c.args.style c.args.unset c.args.table.now c.args.tools.now c.loop-tool.tool-index c.tool-item.result c.loop-tool-test.true c.tool-item.is)
    c.loop-tool.invariant
    (rw (c.as_slice.ensures.value, c.tool_lines-lines.ensures) at c.say_warning_lines.ensures)
