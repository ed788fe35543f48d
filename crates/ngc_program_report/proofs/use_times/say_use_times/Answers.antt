use Rattle.std.proofs.Common.{ap, ap₂, refl, ◌∙◌}
use Rattle.ngc_findings.specs.Uses.{use_of, uses_left}
use Rattle.ngc_sentences.proofs.Said.{all_left, less_left}
use Rattle.ngc_program_report.specs.Times.{ProgramTimeData, ticks_counted, use_times}
use Rattle.ngc_program_report.proofs.UseTimeLaws.{next_time, time_said}
use Rattle.ngc_program_report.proofs.use_times.say_use_times.Goals as goal

pub loop-tool-init : goal.loop-tool-init
loop-tool-init g c =
    let ticks = c.ticks_counted-left.ensures ∙ ap (ticks_counted c.args.commands.now)
    (c.as_slice.ensures.value ∙ ap (λ (t : ProgramTimeData). t.parts) c.time.view_is) in
    all_left _ _ _ (ap₂ (use_times c.args.form c.args.time.now.whole) c.new-uses.ensures ticks)

pub loop-tool-preserved : goal.loop-tool-preserved
loop-tool-preserved g c =
    let even = ap (λ (t : ProgramTimeData). t.whole.ticks_per_second) c.time.view_is in
    less_left _ _
    (next_time c.args.form c.args.time.now.whole (uses_left c.loop-tool.uses) (use_of c.in-Some.tool c.in-Some.ensures.commands)
    (uses_left c.next_tool.new.self) c.loop-tool.left.now c.in-Some-split_first.ticks.now c.in-Some-split_first.later.now
    c.in-Some.ensures.next c.in-Some-split_first.ensures.cases.0) c.loop-tool.invariant
    (time_said _ _ _ _ c.say_use_time.ensures refl even)
