-- What a program does on a machine with its tools, in whatever language it is written. Our own.
use Rattle.std.specs.Prelude.{◌≡◌, ℕ, List, true, false, Option, Some, None, Result, Ok, Err}
use Rattle.ngc_line_reader.specs.Grammar.{Reading}
use Rattle.ngc_line_reader.specs.ProgramText.{AreReadings, ProgramText}
use Rattle.ngc_line_reader.specs.ProgramView.{text_in}
use Rattle.ngc_commands.specs.declared.command.Command.{Command}
use Rattle.ngc_canonical.specs.Meaning.{Program, meaning, parsed_program}
use Rattle.ngc_canonical.specs.State.{Setup}
use Rattle.ngc_dialect_execution.specs.Program.{meaning_in}
use Rattle.ngc_dialect_names.specs.declared.dialect.Dialect.{Dialect}
use Rattle.ngc_job.specs.Job.{JobData, commands_in}
use Rattle.ngc_shifted_program.specs.declared.program.PartProgram.{PartProgram}
use Rattle.ngc_shifted_program.specs.declared.program.PartProgram.TheVariants.{Own, Other}

-- the commands at both settings of block delete
pub record Executed : Type 0 where
  pub off : List Command
  pub on : List Command

abbrev pub executed_of : JobData → Executed
executed_of j = record { off = commands_in false j; on = commands_in true j }

abbrev pub both_executed : {E : Type 0} → Result (List Command) E → Result (List Command) E →
    Option Executed
both_executed (Ok off) (Ok on) = Some (record { off = off; on = on })
both_executed (Ok off) (Err fault) = None
both_executed (Err fault) on = None

-- What a program does on a machine with its tools, in whatever language it is written: its commands
-- at both settings, or none if it is refused at a setting.
abbrev pub Execution : Type 0
Execution = Setup → Option Executed

-- that of a program in our own language
abbrev pub execution_of : Program → Execution
execution_of program setup =
    both_executed (meaning program setup false) (meaning program setup true)

-- what a program of this text does; each of its lines has exactly one reading
pub record IsOwnExecution (text : ProgramText) (does : Execution) : Type 0 where
  pub readings : List Reading
  pub are : AreReadings text.lines readings
  pub is : does ≡ execution_of (parsed_program text readings)

-- that of the text of a program for another control
abbrev pub dialect_execution : Dialect → List ℕ → Execution
dialect_execution d text setup =
    both_executed (meaning_in d setup false text) (meaning_in d setup true text)

abbrev pub IsExecution : {A : Type 0} → PartProgram A → Execution → Type 0
IsExecution (Own program) does = IsOwnExecution (text_in program.now) does
IsExecution (Other d text) does = does ≡ dialect_execution d text.now
