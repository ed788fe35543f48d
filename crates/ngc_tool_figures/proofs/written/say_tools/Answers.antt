use Rattle.ngc_sentences.proofs.Said.{less_left}
use Rattle.ngc_tool_figures.specs.Texts.{tool_line}
use Rattle.ngc_tool_figures.proofs.ToolsLeft.{next_tool}
use Rattle.ngc_tool_figures.proofs.written.say_tools.Goals as goal

pub loop-tool-preserved : goal.loop-tool-preserved
loop-tool-preserved g c =
    less_left _ _
    (next_tool (tool_line c.args.form c.args.ticks_per_second c.args.commands.now c.args.parts.now) c.args.tools.now c.loop-tool.tool-index c.tool-item.result
    c.loop-tool-test.true c.tool-item.is)
    c.loop-tool.invariant c.say_one.ensures
