-- Executing the remaining lines from here has the same result as executing all lines from the
-- start; the changes so far, followed by those from here on, are all changes; the motions so far
-- lead to where the axes are, and there is no end yet.
use Rattle.std.proofs.Common.{◌≡◌, ◌++◌, List, false}
use Rattle.ngc_line_reader.specs.Grammar.{Reading}
use Rattle.ngc_line_reader.specs.ProgramText.{AreReadings}
use Rattle.ngc_line_reader.specs.ProgramView.{text_in}
use Rattle.ngc_machine_files.specs.Machine.{file_of}
use Rattle.ngc_canonical.specs.State.{start_state}
use Rattle.ngc_canonical.specs.Interpreter.{setup_of, state_of}
use Rattle.ngc_canonical.specs.Meaning.{from_state, remaining, parsed_program, with_readings}
use Rattle.ngc_canonical.proofs.EndingSteps.{HasNoEnd}
use Rattle.ngc_canonical.proofs.JoinedMotions.{Holds}
use Rattle.ngc_canonical.proofs.Lines as lines
use Rattle.ngc_frames.specs.Changes.{frame_changes}
use Rattle.ngc_frames.proofs.LineSteps.{left}
use Rattle.ngc_frames.proofs.history.interpret_with_frames.Given as goal

abbrev pub invariant-loop-index : goal.invariant-loop-index
invariant-loop-index g l = record {
  running : (state_of l.interpreter).ended ≡ false;
  no_end : HasNoEnd (state_of l.interpreter).commands;
  holds : Holds (file_of l.machine).start (state_of l.interpreter);
  leads : (rs : List Reading) → AreReadings (text_in l.program).lines rs
      → from_state (setup_of l.machine l.tools) (parsed_program (text_in l.program) rs) (remaining l.block_delete (parsed_program (text_in l.program) rs).lines)
      (start_state (file_of l.machine))
      ≡ lines.left (setup_of l.machine l.tools) (parsed_program (text_in l.program) rs) l.block_delete (text_in l.program).lines rs l.index
      (state_of l.interpreter);
  changed : (rs : List Reading) → AreReadings (text_in l.program).lines rs
      → l.changes.items ++ left (setup_of l.machine l.tools) l.block_delete (text_in l.program).lines rs l.index (state_of l.interpreter)
      ≡ frame_changes (setup_of l.machine l.tools) (with_readings (text_in l.program).lines rs) l.block_delete;
}
