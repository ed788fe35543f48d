-- The result of a call.
use Rattle.std.specs.Prelude.{◌≡◌, ◌<◌, ◌⊎◌, ℕ, List, [], ◌++◌, length, take, drop, min, Bool, Option, Some}
use Rattle.std.specs.Prelude.{Err, IfErr, Result}
use Rattle.ngc_text.specs.declared.input_fault.InputFault.{InputFault}
use Rattle.ngc_text.specs.declared.input_fault.InputFault.TheVariants.{Device}
use Rattle.ngc_command_line.specs.declared.options.Options.{Options}
use Rattle.ngc_dialect_choice.specs.Choice.{IsChosen, StopsChoosing}
use Rattle.ngc_saved_files.specs.Files.{saved_bytes}
use Rattle.ngc_saved_files.specs.Lines.{lines_of}
use Rattle.ngc_saved_files.specs.Notes.{IsNoted}
use Rattle.ngc_simulator.specs.Answers.{ResultsBy, Prints, status_of}
use Rattle.ngc_inputs.specs.Setups.{FileBytes}
use Rattle.ngc_inputs.specs.Unread.{unread_by}
use Rattle.ngc_simulator.specs.declared.done.Done.{Done}
use Rattle.ngc_inputs.specs.declared.fault.AnswerFault.{AnswerFault}
use Rattle.ngc_inputs.specs.declared.fault.AnswerFault.TheVariants.{Input as Unread}

-- a file couldn't be opened, or reading it failed
abbrev pub ReportsUnreadable : Option InputFault → Type 0
ReportsUnreadable (Some Device) = Unit {0}
ReportsUnreadable _ = ⊥

-- the number of bytes of standard error that are stored
abbrev pub LINES_KEPT : ℕ
LINES_KEPT = 65536

-- The lines of standard error, of which the first 65,536 bytes are stored: those of the outcome, and the one
-- about UTF-16.
pub record TellsOf (outcome : Result Done AnswerFault) (status : ℕ) (errors : List ℕ) : Type 0 where
  pub told : Option (List ℕ)
  pub missed : ℕ
  pub failed : ℕ
  pub is_wide : Bool
  pub tells : Prints outcome (record { old = Some []; new = told; failures = 0; failures_now = missed })
  pub noted : IsNoted is_wide status told (Some errors) missed failed
  pub keeps : 0 < failed → length errors ≡ LINES_KEPT

-- The command was done on a program in the language that the options or the machine file name.
pub record IsDoneIn (files : FileBytes) (options : Options) (output : List ℕ) (outcome : Result Done AnswerFault) :
    Type 0 where
  pub chosen : Options
  pub choice : IsChosen files options chosen
  pub comes : ResultsBy files chosen (Some []) (Some output) outcome

-- Nothing was done, since the machine file that decides on the language wasn't read. Each file can be opened, and
-- no source fails: memory ran out, or the file is too long.
pub record IsHeld (files : FileBytes) (options : Options) (output : List ℕ) (outcome : Result Done AnswerFault) :
    Type 0 where
  pub fault : InputFault
  pub stops : StopsChoosing (λ _. ⊥) files options 0 0 fault
  pub nothing : output ≡ []
  pub reports : outcome ≡ Err (Unread fault)

abbrev pub ComesIn : FileBytes → Options → List ℕ → Result Done AnswerFault → Type 0
ComesIn files options output outcome =
    IsDoneIn files options output outcome ⊎ IsHeld files options output outcome

-- The result of `ngc` with these options on these files as an editor saves them: its output, the lines of its
-- standard error, and its status. No file is unreadable.
pub record IsResult (files : FileBytes) (options : Options) (output errors : List ℕ) (status : ℕ) :
    Type 0 where
  pub outcome : Result Done AnswerFault
  pub comes : ComesIn (saved_bytes (lines_of options) files) options output outcome
  pub says : status ≡ status_of outcome
  pub read : IfErr outcome (λ fault. ¬ ReportsUnreadable (unread_by fault))
  pub lines : TellsOf outcome status errors

-- the text is at the front of the old contents, as far as these reach
abbrev pub Holds : List ℕ → List ℕ → List ℕ → Type 0
Holds old new text =
    new ≡ take (min (length text) (length old)) text ++ drop (min (length text) (length old)) old

-- the page's space for a text, before and after a call, and the length that it receives
pub record Space : Type 0 where
  pub old : List ℕ
  pub new : List ℕ
  pub told : ℕ

abbrev pub space : List ℕ → List ℕ → ℕ → Space
space old new told = record { old = old; new = new; told = told }

-- a text is handed over: as much of it as there is space for, and its whole length
pub record Receives (space : Space) (text : List ℕ) : Type 0 where
  pub holds : Holds space.old space.new text
  pub told : space.told ≡ length text

-- the result of `ngc` with these options, with both texts handed over
pub record IsResultIn (files : FileBytes) (options : Options) (output errors : Space) (status : ℕ) :
    Type 0 where
  pub text : List ℕ
  pub lines : List ℕ
  pub told : IsResult files options text lines status
  pub text_handed : Receives output text
  pub lines_handed : Receives errors lines

-- the same with options that request this
pub record Answered (files : FileBytes) (Asks : Options → Type 0) (output errors : Space)
    (status : ℕ) : Type 0 where
  pub options : Options
  pub asks : Asks options
  pub told : IsResultIn files options output errors status
