-- A program of another control: the lines of its text, in order, until its flow begins. Our own.
use Rattle.std.specs.Prelude.{ℕ, List, [], ◌∷◌, ◌++◌, Bool, ◌&&◌, Option, None, Result, Ok, Err, if◌then◌else◌}
use Rattle.ngc_commands.specs.declared.command.Command.{Command}
use Rattle.ngc_line_reader.specs.Program.{split_lines}
use Rattle.ngc_canonical.specs.State.{Setup}
use Rattle.ngc_frames.specs.declared.change.FrameChange.{FrameChange}
use Rattle.ngc_dialect_names.specs.declared.dialect.Dialect.{Dialect}
use Rattle.ngc_dialect_execution.specs.declared.fault.Cause.{Cause}
use Rattle.ngc_dialect_execution.specs.declared.fault.DialectFault.{DialectFault}
use Rattle.ngc_dialect_execution.specs.declared.lines.Taken.{Taken}
use Rattle.ngc_dialect_execution.specs.declared.lines.Taken.TheVariants.{Done, HasFlow}
use Rattle.ngc_dialect_execution.specs.declared.text.Mark.{Mark}
use Rattle.ngc_dialect_execution.specs.declared.text.Mark.TheVariants.{Begins, Ends, IsLine}
use Rattle.ngc_dialect_execution.specs.declared.text.LinesBefore.{LinesBefore}
use Rattle.ngc_dialect_notes.specs.declared.notes.Notes.{Notes}
use Rattle.ngc_dialect_execution.specs.declared.run.Wanted.{Wanted}
use Rattle.ngc_dialect_execution.specs.Executed.{PlainLine}
use Rattle.ngc_dialect_execution.specs.Ending.{Outcome, at, changed_by, finished, framed_by, with_changes}
use Rattle.ngc_dialect_execution.specs.Flow.{flow_from}
use Rattle.ngc_dialect_execution.specs.Mounting.{before_lines}
use Rattle.ngc_dialect_execution.specs.Taken.{Progress, line_taken, nothing_wanted}
use Rattle.ngc_dialect_execution.specs.Text.{ProgramLines, first_byte, has_deleted, is_end, lines_after, mark_of, no_lines}
use Rattle.ngc_dialect_execution.specs.Text.{number_of, program_of}

-- a line by its mark; a percent sign does nothing
abbrev pub marked_taken :
    Setup → Bool → ℕ → Mark → List ℕ → Progress → Result (Taken × Progress) Cause
marked_taken setup block_delete line Begins bytes p = Ok (Done, p)
marked_taken setup block_delete line Ends bytes p = Ok (Done, p)
marked_taken setup block_delete line IsLine bytes p = line_taken setup block_delete line bytes p

-- after a line that did this: the flow begins at it, or it has ended the program, or the lines after it
-- follow
abbrev pub go_from : Taken → Progress → List FrameChange → (Progress → Outcome) →
    (Progress → List FrameChange → Outcome) → Outcome
go_from HasFlow p changes flow rest = flow p
go_from Done p changes flow rest =
    if p.between.state.ended
    then Ok (framed_by p.between changes)
    else rest p changes

-- the same, with the changes before the line and the change that it makes
abbrev pub go_on : ℕ → Progress → List FrameChange → Result (Taken × Progress) DialectFault →
    (Progress → Outcome) → (Progress → List FrameChange → Outcome) → Outcome
go_on line p changes (Ok x) flow rest =
    go_from x.0 x.1 (changes ++ changed_by line p x.1) flow rest
go_on line p changes (Err e) flow rest = Err e

-- Lines in order, up to the end of the program, where `before` says what the lines before them were.
-- From the first line on that has flow, the flow decides which line is next.
unfoldable pub lines_taken : Setup → Bool → ProgramLines → LinesBefore → List (List ℕ) → Progress →
    List FrameChange → Outcome
lines_taken setup block_delete program before [] p changes =
    with_changes changes (finished setup (number_of before.count) p)
lines_taken setup block_delete program before (bytes ∷ rest) p changes =
    let mark = mark_of before p.between.dialect (first_byte bytes) in
    let now = lines_after before (first_byte bytes) in
    let number = number_of now.count in
    if is_end mark then with_changes changes (finished setup number p)
    else (go_on number p changes (at number (marked_taken setup block_delete number mark bytes p))
    (λ q. flow_from setup block_delete program before.count q changes)
    (λ q more. lines_taken setup block_delete program now rest q more))

abbrev pub from_begun : Result Progress DialectFault → (Progress → Outcome) → Outcome
from_begun (Ok p) rest = rest p
from_begun (Err e) rest = Err e

-- what a program's text does if lines that begin with `/` are left out, or if they aren't
abbrev pub traced_by : Wanted → Dialect → Setup → Bool → List ℕ → Outcome
traced_by w d setup leaves_out text = from_begun (before_lines w d setup)
    (λ p. lines_taken setup leaves_out (program_of d text) no_lines (split_lines text) p [])

-- block delete does nothing in a text of which no line begins with `/`
abbrev pub leaves_out : Bool → List ℕ → Bool
leaves_out block_delete text = block_delete && has_deleted text

-- what a program's text does, or its first fault, with what is collected besides
abbrev pub traced_in : Wanted → Dialect → Setup → Bool → List ℕ → Outcome
traced_in w d setup block_delete text = traced_by w d setup (leaves_out block_delete text) text

abbrev pub executed_in : Dialect → Setup → Bool → List ℕ → Outcome
executed_in d setup block_delete text = traced_in nothing_wanted d setup block_delete text

abbrev pub commands_in : Outcome → Result (List Command) DialectFault
commands_in (Ok f) = Ok f.commands
commands_in (Err e) = Err e

-- the commands of a program's text, or its first fault
abbrev pub meaning_in :
    Dialect → Setup → Bool → List ℕ → Result (List Command) DialectFault
meaning_in d setup block_delete text = commands_in (executed_in d setup block_delete text)

abbrev pub changes_of : Outcome → List FrameChange
changes_of (Ok f) = f.changes
changes_of (Err e) = []

-- each change of the frame by which the commands are executed, in the order of execution
unfoldable pub changes_in : Dialect → Setup → Bool → List ℕ → List FrameChange
changes_in d setup block_delete text = changes_of (executed_in d setup block_delete text)

abbrev pub notes_of : Outcome → Option Notes
notes_of (Ok f) = f.notes
notes_of (Err e) = None

-- the notes on a program that isn't refused, where they are wanted
unfoldable pub notes_in : Wanted → Dialect → Setup → Bool → List ℕ → Option Notes
notes_in w d setup block_delete text = notes_of (traced_in w d setup block_delete text)

abbrev pub lines_of : Outcome → Option (List PlainLine)
lines_of (Ok f) = f.lines
lines_of (Err e) = None

-- the plain lines that a program which isn't refused becomes, where they are wanted
unfoldable pub plain_in : Wanted → Dialect → Setup → Bool → List ℕ → Option (List PlainLine)
plain_in w d setup block_delete text = lines_of (traced_in w d setup block_delete text)
