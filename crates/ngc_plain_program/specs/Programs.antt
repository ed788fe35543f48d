-- The plain lines of a program for another control, as the text of a program in our own language. Our
-- own.
use Rattle.std.specs.Prelude.{ℕ, List, ◌++◌, map, codes, Bool}
use Rattle.ngc_canonical.specs.State.{Setup}
use Rattle.ngc_commands.specs.declared.command.Command.{Command}
use Rattle.ngc_dialect_execution.specs.Executed.{PlainLine}
use Rattle.ngc_dialect_execution.specs.Laws.{LeadTo}
use Rattle.ngc_dialect_execution.specs.Views.{kept_line}
use Rattle.ngc_dialect_execution.specs.declared.run.KeptLine.{KeptLine}
use Rattle.ngc_line_reader.specs.Words.{pairs_of}
use Rattle.ngc_plain_laws.specs.Laws.{HasCommands, IsPrintable}
use Rattle.ngc_plain_text.specs.Text.{line_text}

abbrev pub lines_of : {A : Type 0} → List (KeptLine A) → List PlainLine
lines_of lines = map kept_line lines

-- a line's text, with its line feed
abbrev pub kept_text : {A : Type 0} → KeptLine A → List ℕ
kept_text l = line_text (pairs_of l.words.items) ++ codes "\n"

-- If plain lines that can be printed lead to a program's commands, their text has the same actions in
-- our own language, at each setting of block delete.
abbrev pub PrintedProgramsAreSame : Type 0
PrintedProgramsAreSame =
    (setup : Setup) (block_delete : Bool) (lines : List PlainLine) (commands : List Command) →
    IsPrintable lines → LeadTo setup lines commands → HasCommands setup block_delete lines commands
