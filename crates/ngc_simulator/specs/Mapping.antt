-- The map of the heights that a program leaves of the block of material. Our own.
use Rattle.std.specs.Prelude.{◌≡◌, ℕ, List, Option, Some, None, Result, Ok, Err, Bool}
use Rattle.std.specs.Io.KnownBytes.{Appends, Keeps}
use Rattle.ngc_text.specs.Written.{AppendsPrefix}
use Rattle.ngc_line_reader.specs.ProgramText.{program_of}
use Rattle.ngc_line_reader.specs.ProgramView.{FaultIs}
use Rattle.ngc_file_figures.specs.declared.limits.ToolLimits.{ToolLimits}
use Rattle.ngc_machine_files.specs.Machine.{MachineFile}
use Rattle.ngc_commands.specs.declared.command.Command.{Command}
use Rattle.ngc_canonical.specs.State.{Setup}
use Rattle.ngc_dialect_names.specs.declared.dialect.Dialect.{Dialect}
use Rattle.ngc_stock_report.specs.MapPictures.{IsMapOf}
use Rattle.ngc_stock_report.specs.Walked.{IsWalked, WalkData}
use Rattle.ngc_inputs.specs.declared.fault.AnswerFault.{AnswerFault}
use Rattle.ngc_inputs.specs.declared.fault.AnswerFault.TheVariants as answers
use Rattle.ngc_simulator.specs.DialectPictures.{OnDialectCommands}
use Rattle.ngc_simulator.specs.Lists.{IsMeaning, IsRefused}
use Rattle.ngc_simulator.specs.declared.done.Done.{Done}

-- the map of what commands leave of their machine's block of material, in at most `most` cells; `table`
-- says what shapes the cutters of the tools have
pub record IsMap (most : ℕ) (table : List ToolLimits) (machine : MachineFile)
    (commands : List Command) (text : List ℕ) : Type 0 where
  pub walk : WalkData
  pub walked : IsWalked most table machine commands (Some walk)
  pub shows : IsMapOf walk text

-- the map was written, or a prefix of it where the sink failed; without a walk there is none, and where
-- memory ran out, the output is unchanged
abbrev pub MapsCommands : ℕ → List ToolLimits → MachineFile → List Command → Option (List ℕ) →
    Option (List ℕ) → Result (Unit {0}) AnswerFault → Type 0
MapsCommands most table machine commands old new (Ok u) =
    (text : List ℕ) × IsMap most table machine commands text × Appends old new text
MapsCommands most table machine commands old new (Err (answers.Write fault)) =
    (text : List ℕ) × IsMap most table machine commands text × AppendsPrefix old new text
MapsCommands most table machine commands old new (Err answers.NoMap) =
    IsWalked most table machine commands None × Keeps old new
MapsCommands most table machine commands old new (Err answers.Memory) = Keeps old new
MapsCommands most table machine commands old new (Err _) = ⊥

-- of a program's file: the map of its meaning; a refused program, and a file that isn't read, leave the
-- output unchanged
abbrev pub MapsProgram : ℕ → List ToolLimits → Setup → List ℕ → Bool → Option (List ℕ) →
    Option (List ℕ) → Result (Unit {0}) AnswerFault → Type 0
MapsProgram most table setup bytes block_delete old new (Err (answers.Program fault)) =
    IsRefused setup bytes block_delete fault × Keeps old new
MapsProgram most table setup bytes block_delete old new (Err (answers.Read fault)) =
    FaultIs fault (program_of bytes) × Keeps old new
MapsProgram most table setup bytes block_delete old new outcome =
    (commands : List Command) × IsMeaning setup bytes block_delete (Ok commands)
    × MapsCommands most table setup.machine commands old new outcome

-- of a program's text for another control
abbrev pub MapsDialect : ℕ → List ToolLimits → Dialect → Setup → Bool → List ℕ → Option (List ℕ) →
    Option (List ℕ) → Result Done AnswerFault → Type 0
MapsDialect most table d setup block_delete source old new outcome =
    OnDialectCommands d setup block_delete source old new
    (λ commands. MapsCommands most table setup.machine commands old new) outcome
