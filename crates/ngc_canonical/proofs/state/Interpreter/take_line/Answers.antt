use Rattle.std.proofs.Common.{◌≡◌, ℕ, ◌∙◌, ap, false, ◌&&◌, Result, Err}
use Rattle.ngc_line_reader.specs.ProgramView.{text_in}
use Rattle.ngc_canonical.specs.declared.fault.Fault.{Fault}
use Rattle.ngc_canonical.specs.Interpreter.{setup_of, state_of}
use Rattle.ngc_canonical.specs.Meaning.{at_line}
use Rattle.ngc_canonical.specs.State.{State}
use Rattle.ngc_canonical.proofs.Lines.{bytes_are, number_is, left_out, not_out_off, not_out_kept, at_same_line, executed_line}
use Rattle.ngc_canonical.proofs.state.Interpreter.take_line.Goals.{else-block_delete-via-then-block_delete+else-deleted, else-block_delete-via-else-block_delete}
use Rattle.ngc_canonical.proofs.state.Interpreter.take_line.Goals as goal

pub returns-then-deleted : goal.returns-then-deleted
returns-then-deleted g c = λ line at.
    left_out (setup_of c.args.machine.now c.args.tools.now) c.args.block_delete c.is_deleted-deleted.result line (state_of c.args.self.now)
    (c.is_deleted-deleted.ensures line.bytes (bytes_are (text_in c.args.program.now).lines c.args.index line at)) c.if-block_delete.true c.if-deleted.true

pub returns-in-Ok : goal.returns-in-Ok
returns-in-Ok g c = λ line at.
    let kept : (c.args.block_delete && c.is_deleted-deleted.result) ≡ false =
    elim c.else-block_delete.branch [
      | else-block_delete-via-then-block_delete+else-deleted w ↦ not_out_kept _ _ w.if-block_delete.true w.if-deleted.false
      | else-block_delete-via-else-block_delete w ↦ not_out_off _ _ w.if-block_delete.false
    ] in
    let out = c.is_deleted-deleted.ensures line.bytes (bytes_are (text_in c.args.program.now).lines c.args.index line at) in
    let here = number_is (text_in c.args.program.now).lines c.args.index c.number-line.result line at c.number-line.ensures in
    let h = c.in-Ok.ensures line at in
    record {
      reading = h.reading;
      reads = h.reads;
      becomes = executed_line (setup_of c.args.machine.now c.args.tools.now) c.args.block_delete c.is_deleted-deleted.result line (state_of c.args.self.now)
          (state_of c.at.new.self) h.reading out kept (at_same_line (state_of c.args.self.now) (state_of c.at.new.self) c.number-line.result here c.at.ensures) h.reads
          ∙ ap (λ (x : Result State Fault). at_line line.number x) h.becomes;
    }

pub returns-in-Err-Breaks : goal.returns-in-Err-Breaks
returns-in-Err-Breaks g c = λ line at.
    let kept : (c.args.block_delete && c.is_deleted-deleted.result) ≡ false =
    elim c.else-block_delete.branch [
      | else-block_delete-via-then-block_delete+else-deleted w ↦ not_out_kept _ _ w.if-block_delete.true w.if-deleted.false
      | else-block_delete-via-else-block_delete w ↦ not_out_off _ _ w.if-block_delete.false
    ] in
    let out = c.is_deleted-deleted.ensures line.bytes (bytes_are (text_in c.args.program.now).lines c.args.index line at) in
    let here = number_is (text_in c.args.program.now).lines c.args.index c.number-line.result line at c.number-line.ensures in
    let h = rw c.in-Err-Breaks.field-0-is at (c.in-Err-Breaks.ensures line at) in
    record {
      reading = h.reading;
      reads = h.reads;
      becomes = executed_line (setup_of c.args.machine.now c.args.tools.now) c.args.block_delete c.is_deleted-deleted.result line (state_of c.args.self.now)
          (state_of c.at.new.self) h.reading out kept (at_same_line (state_of c.args.self.now) (state_of c.at.new.self) c.number-line.result here c.at.ensures) h.reads
          ∙ ap (λ (x : Result State Fault). at_line line.number x) h.becomes
          ∙ ap (λ (n : ℕ). at_line n (Err c.in-Err-Breaks.fault)) here;
    }

pub returns-in-Err-Memory : goal.returns-in-Err-Memory
returns-in-Err-Memory g c = λ line at.
    let h = c.in-Err-Memory.ensures line at in
    record { reading = h.reading; reads = h.reads; becomes = tt }
