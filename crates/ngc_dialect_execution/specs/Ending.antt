-- How a program ends, the line of a fault, and the frames by which commands are executed. Our own.
use Rattle.std.specs.Prelude.{ℕ, List, length, Option, Result, Ok, Err, if◌then◌else◌}
use Rattle.ngc_commands.specs.declared.command.Command.{Command}
use Rattle.ngc_canonical.specs.declared.fault.Fault.TheVariants.{NoEnd}
use Rattle.ngc_canonical.specs.State.{Setup}
use Rattle.ngc_frames.specs.Changes.{change_at, frame_of}
use Rattle.ngc_frames.specs.declared.change.FrameChange.{FrameChange}
use Rattle.ngc_dialect_execution.specs.declared.fault.Cause.{Cause}
use Rattle.ngc_dialect_execution.specs.declared.fault.Cause.TheVariants as causes
use Rattle.ngc_dialect_execution.specs.declared.fault.DialectFault.{DialectFault}
use Rattle.ngc_dialect_execution.specs.declared.fault.DialectFault.TheVariants as faults
use Rattle.ngc_dialect_execution.specs.Faults.{◌>>=◌}
use Rattle.ngc_dialect_notes.specs.declared.notes.Notes.{Notes}
use Rattle.ngc_dialect_execution.specs.Executed.{PlainLine}
use Rattle.ngc_dialect_execution.specs.Taken.{Between, Progress, ended_at}

-- a result with the line of a fault
abbrev pub at : {A : Type 0} → ℕ → Result A Cause → Result A DialectFault
at line (Ok x) = Ok x
at line (Err cause) = Err (faults.At line cause)

-- what is known once a program has ended
abbrev pub ended_only : Between → Result Between Cause
ended_only b = if b.state.ended then Ok b else Err (causes.Plain NoEnd)

-- a program ends after its last line, as by M2
unfoldable pub finished : Setup → ℕ → Progress → Result Between DialectFault
finished setup last p = at last (ended_at setup last p.between >>= λ b. ended_only b)

-- ---- frames

-- the commands of a program, each change of the frame by which they are executed, and what was collected
pub record Framed : Type 0 where
  pub commands : List Command
  pub changes : List FrameChange
  pub notes : Option Notes
  pub lines : Option (List PlainLine)

abbrev pub framed_by : Between → List FrameChange → Framed
framed_by b changes = record {
  commands = b.state.commands;
  changes = changes;
  notes = b.notes;
  lines = b.kept;
}

abbrev pub Outcome : Type 0
Outcome = Result Framed DialectFault

abbrev pub with_changes : List FrameChange → Result Between DialectFault → Outcome
with_changes changes (Ok b) = Ok (framed_by b changes)
with_changes changes (Err e) = Err e

-- the change of the frame that a line makes, if it makes one
abbrev pub changed_by : ℕ → Progress → Progress → List FrameChange
changed_by line p q =
    change_at line (length p.between.state.commands) (frame_of p.between.state)
    (frame_of q.between.state)
