-- The text of plain lines means in our own language what the plain lines do. No text has two
-- readings, by a law of ngc_line_reader.
use Rattle.std.specs.Prelude.{◌≡◌, ℕ, ◌+◌, ℤ, List, [], ◌∷◌, ◌++◌, length, map, Result, Ok, Err}
use Rattle.std.specs.Prelude.{Bool, true, false}
use Rattle.std.specs.List.{AllByRecursion}
use Rattle.ngc_line_reader.specs.declared.letter.Letter.{Letter}
use Rattle.ngc_line_reader.specs.Grammar.{Reading, Reads}
use Rattle.ngc_line_reader.specs.ProgramText.{ProgramText, program_of, AreReadings, HaveReadings}
use Rattle.ngc_commands.specs.declared.command.Command.{Command}
use Rattle.ngc_commands.specs.Movement.{actions_of}
use Rattle.ngc_canonical.specs.declared.fault.Fault.{Fault}
use Rattle.ngc_canonical.specs.declared.fault.Fault.TheVariants.{NoEnd}
use Rattle.ngc_canonical.specs.declared.fault.ProgramFault.{ProgramFault}
use Rattle.ngc_canonical.specs.declared.fault.ProgramFault.TheVariants.{At}
use Rattle.ngc_canonical.specs.Meaning.{after_line, at_line, execute_words, meaning, parsed_program}
use Rattle.ngc_canonical.specs.State.{Setup, State, start_state}
use Rattle.ngc_plain_text.specs.Text.{line_text, program_text}
use Rattle.ngc_plain_text.specs.Limits.{AreValues, are_few}
use Rattle.ngc_dialect_execution.specs.Executed.{PlainLine, execute_plain, executed}

-- A line that is the text of words does what the words do, with the line's number. Block delete
-- doesn't take it out.
abbrev pub LinesDoWords : Type 0
LinesDoWords =
    (setup : Setup) (block_delete : Bool) (number : ℕ) (words : List (Letter × ℤ)) (r : Reading)
    (s : State) → AreValues words → Reads (line_text words) r →
    after_line setup block_delete number r s
    ≡ at_line number (execute_words setup words (record s { line = number }))

-- the bytes are a program of our own language, and this is its meaning
pub record Means (bytes : List ℕ) (setup : Setup) (block_delete : Bool)
    (says : Result (List Command) ProgramFault) : Type 0 where
  pub text : ProgramText
  pub reads : program_of bytes ≡ Ok text
  pub readings : HaveReadings text.lines
  pub means : (rs : List Reading) → AreReadings text.lines rs →
      meaning (parsed_program text rs) setup block_delete ≡ says

-- the text of plain lines
abbrev pub words_in : List PlainLine → List (List (Letter × ℤ))
words_in lines = map (λ l. l.words) lines

abbrev pub text_of : List PlainLine → List ℕ
text_of lines = program_text (words_in lines)

-- plain lines that our own language can read as text: the values are in range, and the text keeps
-- the limits of lines
pub record IsPrintable (lines : List PlainLine) : Type 0 where
  pub values : AllByRecursion AreValues (words_in lines)
  pub few : are_few (words_in lines) ≡ true

-- plain lines with their numbers in the text, from this one on
abbrev pub in_text : ℕ → List PlainLine → List PlainLine
in_text number [] = []
in_text number (l ∷ ls) = record { line = number; words = l.words } ∷ in_text (number + 1) ls

-- The text has these commands, but for their line numbers: those are the numbers of the lines in
-- the text.
pub record HasCommands (setup : Setup) (block_delete : Bool) (lines : List PlainLine)
    (commands : List Command) : Type 0 where
  pub state : State
  pub numbers : executed setup (in_text 1 lines) (start_state setup.machine) ≡ Ok state
  pub actions : actions_of state.commands ≡ actions_of commands
  pub means : Means (text_of lines) setup block_delete (Ok state.commands)

-- if plain lines end, their text has the same commands at both settings of block delete
abbrev pub TextsHaveCommands : Type 0
TextsHaveCommands =
    (setup : Setup) (block_delete : Bool) (lines : List PlainLine) (s : State) →
    IsPrintable lines → executed setup lines (start_state setup.machine) ≡ Ok s → s.ended ≡ true →
    HasCommands setup block_delete lines s.commands

-- if they don't end, their text lacks an end, which is a fault of its last line
abbrev pub TextsLackEnd : Type 0
TextsLackEnd =
    (setup : Setup) (block_delete : Bool) (lines : List PlainLine) (s : State) →
    IsPrintable lines → executed setup lines (start_state setup.machine) ≡ Ok s → s.ended ≡ false →
    Means (text_of lines) setup block_delete (Err (At (length lines) NoEnd))

-- A plain line is refused with this fault, after others that didn't end. The text is refused with
-- the same fault at that line.
pub record HasFault (setup : Setup) (block_delete : Bool) (lines : List PlainLine)
    (e : Fault) : Type 0 where
  pub before : List PlainLine
  pub line : PlainLine
  pub rest : List PlainLine
  pub are : lines ≡ before ++ (line ∷ rest)
  pub state : State
  pub reaches : executed setup before (start_state setup.machine) ≡ Ok state
  pub running : state.ended ≡ false
  pub refused : execute_plain setup line state ≡ Err e
  pub means : Means (text_of lines) setup block_delete (Err (At (length before + 1) e))

abbrev pub TextsHaveFaults : Type 0
TextsHaveFaults =
    (setup : Setup) (block_delete : Bool) (lines : List PlainLine) (e : Fault) →
    IsPrintable lines → executed setup lines (start_state setup.machine) ≡ Err e →
    HasFault setup block_delete lines e
