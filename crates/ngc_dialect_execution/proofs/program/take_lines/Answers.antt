use Rattle.std.proofs.Common.{sym, ap, ◌∙◌, Ok}
use Rattle.ngc_frames.specs.Changes.{frame_of}
use Rattle.ngc_dialect_execution.specs.Views.{framed_in, progress_in}
use Rattle.ngc_dialect_execution.proofs.FrameSteps.{same_as}
use Rattle.ngc_dialect_execution.proofs.TextSteps.{at_end, ends_there, first_left, flow_begins, goes_on, no_lines_in, none_before, none_left, noted, passes, refused_as, refused_there, said_as}
use Rattle.ngc_dialect_execution.proofs.program.take_lines.Goals as goal

pub loop-rest-init : goal.loop-rest-init
loop-rest-init g c = record {
  leads = none_before _ _ _ _ _ _ _ c.none-lines.ensures c.new-changes.ensures.items;
  recorded = same_as c.frame-recorded.result (frame_of (progress_in c.args.interpreter).between.state) c.frame-recorded.ensures;
}

pub returns-then-is_end : goal.returns-then-is_end
returns-then-is_end g c =
    said_as framed_in c.framed.result _ _
    (first_left _ _ _ _ _ _ _ _ _ _ c.first_line.ensures.lines c.loop-rest.invariant.leads
    ∙ at_end _ _ _ _ _ _ _ _ _ _ _ (passes _ _ _ _ _ _ _ c.pass-mark.ensures.mark c.dialect.ensures c.pass-mark.ensures.after c.number_of-line.ensures)
    (sym c.is_end.ensures ∙ c.if-is_end.true))
    (c.framed.ensures _ c.finish.ensures)

pub returns-in-Err : goal.returns-in-Err
returns-in-Err g c =
    refused_as c.at_line.result _ _ _ c.at_line.ensures (first_left _ _ _ _ _ _ _ _ _ _ c.first_line.ensures.lines c.loop-rest.invariant.leads)
    (refused_there _ _ _ _ _ _ _ _ _ _ _ (λ x. (x, progress_in c.take_marked.new.interpreter)) _
    (passes _ _ _ _ _ _ _ c.pass-mark.ensures.mark c.dialect.ensures c.pass-mark.ensures.after c.number_of-line.ensures)
    (sym c.is_end.ensures ∙ c.if-is_end.false) c.in-Err.ensures)

pub returns-in-Ok-HasFlow : goal.returns-in-Ok-HasFlow
returns-in-Ok-HasFlow g c =
    said_as framed_in c.take_flow.result _ _
    (first_left _ _ _ _ _ _ _ _ _ _ c.first_line.ensures.lines c.loop-rest.invariant.leads
    ∙ flow_begins _ _ _ _ _ _ _ _ _ _ _ _ (passes _ _ _ _ _ _ _ c.pass-mark.ensures.mark c.dialect.ensures c.pass-mark.ensures.after c.number_of-line.ensures)
    (sym c.is_end.ensures ∙ c.if-is_end.false)
    (c.in-Ok-HasFlow.ensures ∙ ap (λ t. Ok (t, progress_in c.take_marked.new.interpreter)) c.in-Ok-HasFlow.field-0-is))
    c.take_flow.ensures

pub returns-then-is_ended : goal.returns-then-is_ended
returns-then-is_ended g c =
    first_left _ _ _ _ _ _ _ _ _ _ c.first_line.ensures.lines c.loop-rest.invariant.leads
    ∙ ends_there _ _ _ _ _ _ _ _ _ _ _ _ _ _ (passes _ _ _ _ _ _ _ c.pass-mark.ensures.mark c.dialect.ensures c.pass-mark.ensures.after c.number_of-line.ensures)
    (sym c.is_end.ensures ∙ c.if-is_end.false)
    (c.in-Ok-Done.ensures ∙ ap (λ t. Ok (t, progress_in c.take_marked.new.interpreter)) c.in-Ok-Done.field-0-is)
    (sym c.is_ended.ensures ∙ c.if-is_ended.true)
    (noted _ c.command_count-count.result c.loop-rest.recorded (progress_in c.loop-rest.interpreter) (progress_in c.take_marked.new.interpreter) _ _ c.command_count-count.ensures c.loop-rest.invariant.recorded c.in-Ok.ensures.added)
    c.framed_by.ensures

pub loop-rest-preserved : goal.loop-rest-preserved
loop-rest-preserved g c = record {
  leads = sym (goes_on _ _ _ _ _ _ _ _ _ _ _ _ _ (passes _ _ _ _ _ _ _ c.pass-mark.ensures.mark c.dialect.ensures c.pass-mark.ensures.after c.number_of-line.ensures)
      (sym c.is_end.ensures ∙ c.if-is_end.false)
      (c.in-Ok-Done.ensures ∙ ap (λ t. Ok (t, progress_in c.take_marked.new.interpreter)) c.in-Ok-Done.field-0-is)
      (sym c.is_ended.ensures ∙ c.if-is_ended.false)
      (noted _ c.command_count-count.result c.loop-rest.recorded (progress_in c.loop-rest.interpreter) (progress_in c.take_marked.new.interpreter) _ _ c.command_count-count.ensures c.loop-rest.invariant.recorded c.in-Ok.ensures.added))
      ∙ sym (first_left _ _ _ _ _ _ _ _ _ _ c.first_line.ensures.lines c.loop-rest.invariant.leads);
  recorded = c.in-Ok.ensures.recorded;
}

pub returns : goal.returns
returns g c =
    said_as framed_in c.framed-2.result _ _
    (none_left _ _ _ _ _ _ _ _ _ (no_lines_in _ c.is_empty.result c.is_empty.ensures c.loop-rest-test.false) c.number_of.ensures c.loop-rest.invariant.leads)
    (c.framed-2.ensures _ c.finish-2.ensures)
