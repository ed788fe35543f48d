-- The result of a command line.
use Rattle.std.specs.Prelude.{◌≡◌, ◌⊎◌, ℕ, List, [], codes}
use Rattle.std.specs.Str.{IsUtf8}
use Rattle.std.specs.Str.Lines.{lines}
use Rattle.clap.specs.Words.{subcommand_of}
use Rattle.ngc_command_line.specs.CommandLine.{ngc_app}
use Rattle.ngc_command_line.specs.Meant.{AreOptions, HaveChanges, IsTaken}
use Rattle.ngc_command_line.specs.declared.options.Options.{Options}
use Rattle.ngc_inputs.specs.Setups.{FileBytes}
use Rattle.ngc_page.specs.Answered.{IsResultIn, Receives, Space}

-- The lines of a text are the words of a command line: `clap` finds no fault in them, and the values
-- of the options that replace keys of the machine file can be read.
pub record IsCommandLine (text : List ℕ) : Type 0 where
  pub utf8 : IsUtf8 text
  pub taken : IsTaken (lines text)
  pub changes : HaveChanges (subcommand_of ngc_app (lines text))

-- The words are executed: the result of `ngc` with the options that `clap` finds in them.
pub record IsExecuted (files : FileBytes) (text : List ℕ) (output errors : Space) (status : ℕ) :
    Type 0 where
  pub utf8 : IsUtf8 text
  pub taken : IsTaken (lines text)
  pub options : Options
  pub meant : AreOptions (subcommand_of ngc_app (lines text)) options
  pub told : IsResultIn files options output errors status

-- no output, and these lines of standard error
pub record TellsOnly (lines : List ℕ) (output errors : Space) : Type 0 where
  pub nothing : Receives output []
  pub lines_handed : Receives errors lines

-- The words are refused: nothing is executed, and standard error gets lines. Which lines isn't stated.
pub record IsUsage (text : List ℕ) (output errors : Space) (status : ℕ) : Type 0 where
  pub wrong : ¬ IsCommandLine text
  pub says : status ≡ 2
  pub lines : List ℕ
  pub tells : TellsOnly lines output errors

-- Memory ran out before the words were read: nothing is executed.
pub record IsUnread (output errors : Space) (status : ℕ) : Type 0 where
  pub says : status ≡ 1
  pub tells : TellsOnly (codes "ngc: fault 900\n") output errors

-- the result of `ngc` with the lines of a text as its words
abbrev pub Commanded : FileBytes → List ℕ → Space → Space → ℕ → Type 0
Commanded files text output errors status =
    IsExecuted files text output errors status
    ⊎ IsUsage text output errors status ⊎ IsUnread output errors status
