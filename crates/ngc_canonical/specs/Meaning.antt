-- The meaning of a program: its commands, or its first fault and that fault's line (NISTIR 6556,
-- 3.8 and 3.6.1).
use Rattle.std.specs.Prelude.{◌≡◌, ℕ, ◌+◌, ℤ, List, [], ◌∷◌, length, Option, Some, None, Result, Ok}
use Rattle.std.specs.Prelude.{Err, Bool, true, false, ◌&&◌, ◌||◌, if◌then◌else◌}
use Rattle.ngc_line_reader.specs.Grammar.{Item, Reading}
use Rattle.ngc_line_reader.specs.Program.{Line}
use Rattle.ngc_line_reader.specs.ProgramText.{ProgramText}
use Rattle.ngc_line_reader.specs.declared.letter.Letter.{Letter}
use Rattle.ngc_parameters.specs.Meaning.{after_settings}
use Rattle.ngc_parameters.specs.Stored.{line_values}
use Rattle.ngc_commands.specs.declared.command.Action.TheVariants.{End}
use Rattle.ngc_commands.specs.declared.command.Command.{Command}
use Rattle.ngc_modal_state.specs.declared.effect.Effect.{Effect}
use Rattle.ngc_modal_state.specs.declared.modes.Modes.{Modes}
use Rattle.ngc_canonical.specs.declared.fault.Fault.{Fault}
use Rattle.ngc_canonical.specs.declared.fault.Fault.TheVariants.{Value, Modal, NoEnd}
use Rattle.ngc_canonical.specs.declared.fault.ProgramFault.{ProgramFault}
use Rattle.ngc_canonical.specs.declared.fault.ProgramFault.TheVariants.{At, Memory}
use Rattle.ngc_modal_state.specs.Block.{block_of}
use Rattle.ngc_modal_state.specs.Effects.{effects}
use Rattle.ngc_canonical.specs.Steps.{◌>>=◌, faulted}
use Rattle.ngc_canonical.specs.State.{Setup, State, start_state, emit}
use Rattle.ngc_canonical.specs.Perform.{run}

-- a line that was read, with its number in the file
pub record NumberedLine : Type 0 where
  pub number : ℕ
  pub reading : Reading

-- the lines of a program, the number of lines of the text, and in a marked file the line of its
-- second %
pub record Program : Type 0 where
  pub lines : List NumberedLine
  pub count : ℕ
  pub mark : Option ℕ

-- the effects of a line's words, in order of execution
abbrev pub effects_of : Modes → List (Letter × ℤ) → Result (List Effect) Fault
effects_of modes words = do
  block ← faulted Modal (block_of words)
  faulted Modal (effects modes block)

-- settings are made from left to right
abbrev pub with_settings : List (ℕ × ℤ) → State → State
with_settings settings s = record s { parameters = after_settings settings s.parameters }

-- the result of words with these values, without settings
abbrev pub execute_words : Setup → List (Letter × ℤ) → State → Result State Fault
execute_words setup words s = do
  what ← effects_of s.modes words
  run setup what s

-- a line: all values use the parameters before it; then its words take effect, and then its
-- settings
abbrev pub execute : Setup → List Item → State → Result State Fault
execute setup items s = do
  values ← faulted Value (line_values s.parameters items)
  t ← execute_words setup values.0 s
  Ok (with_settings values.1 t)

abbrev pub at_line : {A : Type 0} → ℕ → Result A Fault → Result A ProgramFault
at_line line (Ok x) = Ok x
at_line line (Err e) = Err (At line e)

-- if block delete is on, lines that begin with / are left out
abbrev pub remaining : Bool → List NumberedLine → List NumberedLine
remaining block_delete [] = []
remaining block_delete (line ∷ lines) =
    let rest = remaining block_delete lines in if block_delete && line.reading.deleted then rest
    else line ∷ rest

-- a line begins with /
abbrev pub has_deleted : List NumberedLine → Bool
has_deleted [] = false
has_deleted (line ∷ lines) = line.reading.deleted || has_deleted lines

-- a line, unless block delete takes it out
abbrev pub after_line : Setup → Bool → ℕ → Reading → State → Result State ProgramFault
after_line setup block_delete number reading s =
    if block_delete && reading.deleted then Ok s
    else at_line number (execute setup reading.items (record s { line = number }))

-- the commands of a state
abbrev pub commands_of : Result State ProgramFault → Result (List Command) ProgramFault
commands_of (Ok s) = Ok s.commands
commands_of (Err e) = Err e

-- after the last line: a marked file ends at its second %, as by M2
abbrev pub past_last : Option ℕ → ℕ → State → Result State ProgramFault
past_last None count s = Err (At count NoEnd)
past_last (Some line) count s = at_line line (emit End (record s { line = line }))

-- the state after a line, and then the lines after it, unless it was an end
abbrev pub go_on : Bool → State → (State → Result State ProgramFault) → Result State ProgramFault
go_on true s rest = Ok s
go_on false s rest = rest s

abbrev pub then_lines : Result State ProgramFault → (State → Result State ProgramFault) →
    Result State ProgramFault
then_lines (Ok s) rest = go_on s.ended s rest
then_lines (Err e) rest = Err e

-- lines in order
unfoldable pub from_state : Setup → Program → List NumberedLine → State → Result State ProgramFault
from_state setup program [] s = past_last program.mark program.count s
from_state setup program (line ∷ lines) s =
    then_lines (after_line setup false line.number line.reading s)
    (λ t. from_state setup program lines t)

abbrev pub meaning : Program → Setup → Bool → Result (List Command) ProgramFault
meaning program setup block_delete = commands_of
    (from_state setup program (remaining block_delete program.lines) (start_state setup.machine))

-- ---- the program that a file's text is, by the readings of its lines

abbrev pub with_readings : List Line → List Reading → List NumberedLine
with_readings [] rs = []
with_readings (line ∷ lines) [] = []
with_readings (line ∷ lines) (r ∷ rs) =
    record { number = line.number; reading = r } ∷ with_readings lines rs

-- a marked file has two lines besides those that are read: the first % and, after them, the second
abbrev pub mark_of : Bool → ℕ → Option ℕ
mark_of true count = Some (count + 2)
mark_of false count = None

abbrev pub parsed_program : ProgramText → List Reading → Program
parsed_program text rs =
    record {
      lines = with_readings text.lines rs;
      count = length text.lines;
      mark = mark_of text.marked (length text.lines);
    }

-- after the last line of a text
abbrev pub past_text : ProgramText → State → Result State ProgramFault
past_text text s = past_last (mark_of text.marked (length text.lines)) (length text.lines) s

-- ---- the results that a call may have

abbrev pub Fails : {Y : Type 0} → ProgramFault → Result Y ProgramFault → Type 0
Fails Memory says = Unit {0}
Fails (At line e) says = says ≡ Err (At line e)

-- the effects that were found are the definition's
abbrev pub EffectsAre : Result (Unit {0}) Fault → List Effect →
    Result (List Effect) Fault → Type 0
EffectsAre (Ok u) found says = says ≡ Ok found
EffectsAre (Err e) found says = says ≡ Err e

-- the result, seen by view, equals the definition's, unless memory ran out
abbrev pub MeaningIs : {X Y : Type 0} → (X → Y) → Result X ProgramFault →
    Result Y ProgramFault → Type 0
MeaningIs view (Ok x) says = says ≡ Ok (view x)
MeaningIs view (Err e) says = Fails e says
