use Rattle.std.proofs.Common.{drop, flat_map}
use Rattle.ngc_sentences.proofs.Said.{IsLeft}
use Rattle.ngc_setup_sheet.specs.Sheets.{tool_lines}
use Rattle.ngc_setup_sheet.specs.Spelling.{lines_text}
use Rattle.ngc_setup_sheet.specs.Writes.{chosen}
use Rattle.ngc_setup_sheet.proofs.warned.warn_of_tools.Given as goal

abbrev pub invariant-loop-tool : goal.invariant-loop-tool
invariant-loop-tool g l =
    IsLeft (g.W.Sink.written l.initial.output) (g.W.Sink.written l.output) (g.W.Sink.failures l.initial.output) (g.W.Sink.failures l.output)
    l.initial.page l.page
    (lines_text (chosen l.style (flat_map (tool_lines l.unset l.table) (drop l.tool-index l.tools))))
    (lines_text (chosen l.style (flat_map (tool_lines l.unset l.table) l.tools)))
