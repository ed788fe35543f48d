-- The lines that are left mean, from what is known so far, what all lines mean. The frame that was
-- recorded last is the one in force.
use Rattle.std.proofs.Common.{◌≡◌, [], true, length}
use Rattle.ngc_canonical.specs.Interpreter.{setup_of}
use Rattle.ngc_frames.specs.Changes.{frame_of}
use Rattle.ngc_frames.specs.Frame.{is_same_frame}
use Rattle.ngc_line_reader.specs.Program.{split_lines}
use Rattle.ngc_dialect_execution.specs.Program.{lines_taken}
use Rattle.ngc_dialect_execution.specs.Text.{no_lines, program_of}
use Rattle.ngc_dialect_execution.specs.Views.{progress_in}
use Rattle.ngc_dialect_execution.proofs.program.take_lines.Given as goal

abbrev pub invariant-loop-rest : goal.invariant-loop-rest
invariant-loop-rest g l = record {
  leads : lines_taken (setup_of l.machine l.tools) l.block_delete (program_of l.dialect l.text) l.lines (split_lines l.rest) (progress_in l.interpreter) l.changes.items
      ≡ lines_taken (setup_of l.machine l.tools) l.block_delete (program_of l.dialect l.text) no_lines (split_lines l.text) (progress_in l.fn.interpreter) [];
  recorded : is_same_frame l.recorded (frame_of (progress_in l.interpreter).between.state) ≡ true;
}

abbrev pub decreases-loop-rest : goal.decreases-loop-rest
decreases-loop-rest g l = length l.rest
