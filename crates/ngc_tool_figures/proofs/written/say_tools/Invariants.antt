use Rattle.std.proofs.Common.{drop, flat_map, Some}
use Rattle.ngc_machine_files.specs.declared.tools.Tool.{Tool}
use Rattle.ngc_sentences.proofs.Said.{IsLeft}
use Rattle.ngc_tool_figures.specs.Texts.{tool_line}
use Rattle.ngc_tool_figures.proofs.written.say_tools.Given as goal

abbrev pub invariant-loop-tool : goal.invariant-loop-tool
invariant-loop-tool g l =
    IsLeft (g.W.Sink.written l.initial.output) (g.W.Sink.written l.output) (g.W.Sink.failures l.initial.output) (g.W.Sink.failures l.output)
    l.initial.page l.page
    (flat_map (λ (t : Tool). tool_line l.form l.ticks_per_second l.commands l.parts (Some t.number)) (drop l.tool-index l.tools))
    (flat_map (λ (t : Tool). tool_line l.form l.ticks_per_second l.commands l.parts (Some t.number)) l.tools)
