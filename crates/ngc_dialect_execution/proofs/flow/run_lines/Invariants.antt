-- The program, from where it is, means what it meant from its first line on. The frame that was recorded
-- last is the one in force.
use Rattle.std.proofs.Common.{◌≡◌, true, map}
use Rattle.ngc_canonical.specs.Interpreter.{setup_of}
use Rattle.ngc_frames.specs.Changes.{frame_of}
use Rattle.ngc_frames.specs.Frame.{is_same_frame}
use Rattle.ngc_dialect_flow.specs.Places.{plan_of}
use Rattle.ngc_dialect_flow.specs.State.{flow_of}
use Rattle.ngc_dialect_execution.specs.Flow.{flow_taken}
use Rattle.ngc_dialect_execution.specs.Text.{ProgramLines}
use Rattle.ngc_dialect_execution.specs.Views.{progress_in}
use Rattle.ngc_dialect_execution.proofs.flow.run_lines.Given as goal

abbrev pub invariant-loop-state : goal.invariant-loop-state
invariant-loop-state g l =
    let program : ProgramLines = record { dialect = (plan_of l.table).dialect; lines = map (λ x. x.now) l.lines; last = l.last } in
    record {
      leads : flow_taken (setup_of l.machine l.tools) l.block_delete (plan_of l.table) program (flow_of l.state).fuel
          (record { progress = progress_in l.interpreter; flow = flow_of l.state }) l.changes.items
          ≡ flow_taken (setup_of l.machine l.tools) l.block_delete (plan_of l.table) program (flow_of l.fn.state).fuel
          (record { progress = progress_in l.fn.interpreter; flow = flow_of l.fn.state }) l.fn.changes.items;
      recorded : is_same_frame l.recorded (frame_of (progress_in l.interpreter).between.state) ≡ true;
    }

abbrev pub decreases-loop-state : goal.decreases-loop-state
decreases-loop-state g l = (flow_of l.state).fuel
