use Rattle.std.proofs.Common.{refl, sym, ◌∙◌, arith}
use Rattle.ngc_frames.specs.Changes.{frame_of}
use Rattle.ngc_canonical.specs.Interpreter.{setup_of}
use Rattle.ngc_dialect_flow.specs.Places.{plan_of}
use Rattle.ngc_dialect_flow.specs.State.{flow_of}
use Rattle.ngc_dialect_execution.specs.Views.{framed_in, progress_in}
use Rattle.ngc_dialect_execution.proofs.FlowSteps.{flow_ends, flow_goes_on, flow_refused, fuel_less, goes_here, over_here, program_with, spent_here}
use Rattle.ngc_dialect_execution.proofs.FrameSteps.{same_as}
use Rattle.ngc_dialect_execution.proofs.TextSteps.{noted, said_as}
use Rattle.ngc_dialect_execution.proofs.flow.run_lines.Goals as goal

pub loop-state-init : goal.loop-state-init
loop-state-init g c = record {
  leads = refl;
  recorded = same_as c.frame-recorded.result (frame_of (progress_in c.args.interpreter).between.state) c.frame-recorded.ensures;
}

pub returns-then-not-has_fuel : goal.returns-then-not-has_fuel
returns-then-not-has_fuel g c =
    spent_here (λ x. x.now) (setup_of c.args.machine.now c.args.tools.now) c.args.block_delete (plan_of c.args.table.now) c.args.lines.now c.args.last
    (record { progress = progress_in c.loop-state.interpreter; flow = flow_of c.loop-state.state }) c.loop-state.changes.items c.line-index.result c.line.result c.number_of-line.result
    c.has_fuel.result _ c.line.ensures c.line-index.ensures c.loop-state-test.true c.has_fuel.ensures c.if-not-has_fuel.true
    c.number_of-line.ensures c.loop-state.invariant.leads

pub returns-then-is_end : goal.returns-then-is_end
returns-then-is_end g c =
    said_as framed_in c.framed.result _ _
    (flow_ends (setup_of c.args.machine.now c.args.tools.now) c.args.block_delete (plan_of c.args.table.now) (program_with (λ x. x.now) (plan_of c.args.table.now) c.args.lines.now c.args.last) _ c.number_of-line.result (record { progress = progress_in c.loop-state.interpreter; flow = flow_of c.loop-state.state }) (record { progress = progress_in c.take_flow_line.new.self; flow = flow_of c.take_flow_line.new.state }) c.loop-state.changes.items _ _ _ c.in-Ok.effect
    (goes_here (λ x. x.now) (setup_of c.args.machine.now c.args.tools.now) c.args.block_delete (plan_of c.args.table.now) c.args.lines.now c.args.last
    (record { progress = progress_in c.loop-state.interpreter; flow = flow_of c.loop-state.state }) c.loop-state.changes.items _ c.line-index.result c.line.result c.number_of-line.result
    c.has_fuel.result _ c.line.ensures c.line-index.ensures c.loop-state-test.true c.has_fuel.ensures c.if-not-has_fuel.false c.number_of-line.ensures c.loop-state.invariant.leads) c.in-Ok.ensures (noted _ c.command_count-count.result c.loop-state.recorded (progress_in c.loop-state.interpreter) (progress_in c.take_flow_line.new.self) _ _ c.command_count-count.ensures c.loop-state.invariant.recorded c.in-Ok-add_change.ensures.added) (sym c.is_end.ensures ∙ c.if-is_end.true))
    (c.framed.ensures _ c.finish.ensures)

pub loop-state-smaller : goal.loop-state-smaller
loop-state-smaller g c =
    let less = fuel_less (setup_of c.args.machine.now c.args.tools.now) c.args.block_delete (plan_of c.args.table.now) c.number_of-line.result (record { progress = progress_in c.loop-state.interpreter; flow = flow_of c.loop-state.state }) (record { progress = progress_in c.take_flow_line.new.self; flow = flow_of c.take_flow_line.new.state }) _ c.in-Ok.effect c.in-Ok.ensures
    (sym c.is_end.ensures ∙ c.if-is_end.false) in
    omega (arith, less)

pub loop-state-preserved : goal.loop-state-preserved
loop-state-preserved g c = record {
  leads = flow_goes_on (setup_of c.args.machine.now c.args.tools.now) c.args.block_delete (plan_of c.args.table.now) (program_with (λ x. x.now) (plan_of c.args.table.now) c.args.lines.now c.args.last) c.number_of-line.result (record { progress = progress_in c.loop-state.interpreter; flow = flow_of c.loop-state.state }) (record { progress = progress_in c.take_flow_line.new.self; flow = flow_of c.take_flow_line.new.state }) c.loop-state.changes.items _ _ _ c.in-Ok.effect
      (goes_here (λ x. x.now) (setup_of c.args.machine.now c.args.tools.now) c.args.block_delete (plan_of c.args.table.now) c.args.lines.now c.args.last
      (record { progress = progress_in c.loop-state.interpreter; flow = flow_of c.loop-state.state }) c.loop-state.changes.items _ c.line-index.result c.line.result c.number_of-line.result
      c.has_fuel.result _ c.line.ensures c.line-index.ensures c.loop-state-test.true c.has_fuel.ensures c.if-not-has_fuel.false c.number_of-line.ensures c.loop-state.invariant.leads) c.in-Ok.ensures (noted _ c.command_count-count.result c.loop-state.recorded (progress_in c.loop-state.interpreter) (progress_in c.take_flow_line.new.self) _ _ c.command_count-count.ensures c.loop-state.invariant.recorded c.in-Ok-add_change.ensures.added) (sym c.is_end.ensures ∙ c.if-is_end.false);
  recorded = c.in-Ok-add_change.ensures.recorded;
}

pub returns-in-Err : goal.returns-in-Err
returns-in-Err g c =
    flow_refused (setup_of c.args.machine.now c.args.tools.now) c.args.block_delete (plan_of c.args.table.now) (program_with (λ x. x.now) (plan_of c.args.table.now) c.args.lines.now c.args.last) _ c.number_of-line.result (record { progress = progress_in c.loop-state.interpreter; flow = flow_of c.loop-state.state }) c.loop-state.changes.items _ _ (λ x. (x, record { progress = progress_in c.take_flow_line.new.self; flow = flow_of c.take_flow_line.new.state })) c.in-Err.refusal
    c.at_line.result (goes_here (λ x. x.now) (setup_of c.args.machine.now c.args.tools.now) c.args.block_delete (plan_of c.args.table.now) c.args.lines.now c.args.last
    (record { progress = progress_in c.loop-state.interpreter; flow = flow_of c.loop-state.state }) c.loop-state.changes.items _ c.line-index.result c.line.result c.number_of-line.result
    c.has_fuel.result _ c.line.ensures c.line-index.ensures c.loop-state-test.true c.has_fuel.ensures c.if-not-has_fuel.false c.number_of-line.ensures c.loop-state.invariant.leads) c.at_line.ensures c.in-Err.ensures

pub returns : goal.returns
returns g c =
    said_as framed_in c.framed-2.result _ _
    (over_here (λ x. x.now) (setup_of c.args.machine.now c.args.tools.now) c.args.block_delete (plan_of c.args.table.now) c.args.lines.now c.args.last
    (record { progress = progress_in c.loop-state.interpreter; flow = flow_of c.loop-state.state }) c.loop-state.changes.items c.line.result _ c.line.ensures c.loop-state-test.false c.loop-state.invariant.leads)
    (c.framed-2.ensures _ c.finish-2.ensures)
