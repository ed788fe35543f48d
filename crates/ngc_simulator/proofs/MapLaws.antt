-- The result of mapping what a program leaves, from the results of its parts.
use Rattle.std.proofs.Common.{◌≡◌, ℕ, List, Option, Some, None, Bool, true, false, Result, Ok, Err, IfSome, refl, subst, sym}
use Rattle.std.specs.Prelude.{IfErr, option_map}
use Rattle.std.specs.Io.KnownBytes.{Appends, Keeps}
use Rattle.ngc_text.specs.Written.{AppendsPrefix}
use Rattle.ngc_line_reader.specs.ProgramText.{HaveReadings, ProgramText, program_of}
use Rattle.ngc_canonical.specs.Interpreter.{setup_of}
use Rattle.ngc_canonical.specs.State.{Setup}
use Rattle.ngc_command_line.specs.declared.options.DrawOptions.{DrawOptions}
use Rattle.ngc_commands.specs.declared.command.Command.{Command}
use Rattle.ngc_dialect_execution.specs.Program.{meaning_in}
use Rattle.ngc_dialect_names.specs.declared.dialect.Dialect.{Dialect}
use Rattle.ngc_file_figures.specs.Files.{stored}
use Rattle.ngc_file_figures.specs.declared.limits.ToolLimits.{ToolLimits}
use Rattle.ngc_inputs.specs.Setups.{AreFiguresIn, FileBytes, KeepsFiles}
use Rattle.ngc_inputs.specs.Shops.{PlacedResultIs}
use Rattle.ngc_inputs.specs.Unread.{unread_by}
use Rattle.ngc_inputs.specs.declared.fault.AnswerFault.{AnswerFault}
use Rattle.ngc_inputs.specs.declared.fault.AnswerFault.TheVariants as answers
use Rattle.ngc_inputs.specs.declared.setup.Shop.{Shop}
use Rattle.ngc_inputs.proofs.SetupLaws.{on_placed}
use Rattle.ngc_machine_files.specs.Machine.{MachineFile}
use Rattle.ngc_stock_report.specs.MapPictures.{IsMapOf}
use Rattle.ngc_stock_report.specs.Walked.{IsWalked, WalkData}
use Rattle.ngc_simulator.specs.Answers.{MapsFrom, map_cells}
use Rattle.ngc_simulator.specs.Lists.{IsMeaning}
use Rattle.ngc_simulator.specs.Mapping.{IsMap, MapsCommands, MapsDialect, MapsProgram}
use Rattle.ngc_simulator.specs.declared.done.Done.{Done}
use Rattle.ngc_simulator.specs.declared.done.Done.TheVariants.{Quietly}
use Rattle.ngc_simulator.proofs.DrawLaws.{is_meaning}
use Rattle.ngc_simulator.proofs.ListLaws.{Means}

-- ---- of commands

-- the map of a walk that was found
pub mapped : (most : ℕ) (table : List ToolLimits) (machine : MachineFile) (commands : List Command) (walk : WalkData) (old new : Option (List ℕ))
    → IsWalked most table machine commands (Some walk) → (text : List ℕ) × IsMapOf walk text × Appends old new text
    → MapsCommands most table machine commands old new (Ok tt)
mapped most table machine commands walk old new walked wrote =
    (wrote.0, record { walk = walk; walked = walked; shows = wrote.1 }, wrote.2)

pub unmapped : (most : ℕ) (table : List ToolLimits) (machine : MachineFile) (commands : List Command) (walk : WalkData) (old new : Option (List ℕ))
    → IsWalked most table machine commands (Some walk) → (text : List ℕ) × IsMapOf walk text × AppendsPrefix old new text
    → (text : List ℕ) × IsMap most table machine commands text × AppendsPrefix old new text
unmapped most table machine commands walk old new walked wrote =
    (wrote.0, record { walk = walk; walked = walked; shows = wrote.1 }, wrote.2)

-- ---- of a program in our own language

pub mapped_program : (most : ℕ) (table : List ToolLimits) (setup : Setup) (bytes : List ℕ) (block_delete : Bool) (text : ProgramText)
    (commands given : List Command) (old new : Option (List ℕ)) (outcome : Result (Unit {0}) AnswerFault)
    → given ≡ commands → program_of bytes ≡ Ok text → HaveReadings text.lines → Means text setup block_delete (Ok commands)
    → MapsCommands most table setup.machine given old new outcome → MapsProgram most table setup bytes block_delete old new outcome
mapped_program most table setup bytes block_delete text commands given old new outcome same is_text have means maps =
    of_outcome outcome (subst (λ (cs : List Command). MapsCommands most table setup.machine cs old new outcome) same maps)
  where
    of_outcome : (outcome : Result (Unit {0}) AnswerFault) → MapsCommands most table setup.machine commands old new outcome
        → MapsProgram most table setup bytes block_delete old new outcome
    of_outcome (Ok u) maps = (commands, is_meaning setup bytes block_delete text (Ok commands) is_text have means, maps)
    of_outcome (Err answers.Memory) maps = (commands, is_meaning setup bytes block_delete text (Ok commands) is_text have means, maps)
    of_outcome (Err answers.NoMap) maps = (commands, is_meaning setup bytes block_delete text (Ok commands) is_text have means, maps)
    of_outcome (Err (answers.Write e)) maps = (commands, is_meaning setup bytes block_delete text (Ok commands) is_text have means, maps)
    of_outcome (Err _) maps = absurd maps

-- of the files that the command line names
pub map_of_files : (bytes after : FileBytes) (options : DrawOptions) (shop : Shop) (old new : Option (List ℕ)) (outcome : Result (Unit {0}) AnswerFault)
    (P : List ℕ → Type 0)
    → AreFiguresIn bytes (Some options.machine.now) (Some options.tools.now) (stored shop.figures)
    → PlacedResultIs bytes (Some options.machine.now) (Some options.tools.now) options.changes (Ok shop) → KeepsFiles bytes after
    → IfSome (after (option_map (λ n. n.now) options.program)) P
    → ((a : List ℕ) → P a
    → MapsProgram (map_cells options) shop.figures.tools.items (setup_of shop.machine shop.tools) a options.delete old new outcome)
    → MapsFrom bytes options old new outcome
map_of_files bytes after options shop old new outcome P are said keeps p on = (
  stored shop.figures,
  are,
  on_placed bytes (Some options.machine.now) (Some options.tools.now) options.changes (setup_of shop.machine shop.tools)
      (λ setup. IfSome (bytes (option_map (λ n. n.now) options.program))
      (λ text. MapsProgram (map_cells options) shop.figures.tools.items setup text options.delete old new outcome))
      said.0 said.1
      (subst (λ (k : Option (List ℕ)). IfSome k
      (λ text. MapsProgram (map_cells options) shop.figures.tools.items (setup_of shop.machine shop.tools) text options.delete old new outcome))
      (keeps (option_map (λ n. n.now) options.program)) (on_known _ p)),
)
  where
    on_known : (known : Option (List ℕ)) → IfSome known P → IfSome known
        (λ text. MapsProgram (map_cells options) shop.figures.tools.items (setup_of shop.machine shop.tools) text options.delete old new outcome)
    on_known None q = tt
    on_known (Some a) q = on a q

-- ---- of a program for another control

pub dialect_mapped : (most : ℕ) (table : List ToolLimits) (d : Dialect) (setup : Setup) (block_delete : Bool) (source : List ℕ)
    (commands given : List Command) (old new : Option (List ℕ))
    → given ≡ commands → meaning_in d setup block_delete source ≡ Ok commands → MapsCommands most table setup.machine given old new (Ok tt)
    → MapsDialect most table d setup block_delete source old new (Ok Quietly)
dialect_mapped most table d setup block_delete source commands given old new same means maps =
    (commands, means, subst (λ (cs : List Command). MapsCommands most table setup.machine cs old new (Ok tt)) same maps)

pub dialect_unmapped : (most : ℕ) (table : List ToolLimits) (d : Dialect) (setup : Setup) (block_delete : Bool) (source : List ℕ)
    (commands given : List Command) (old new : Option (List ℕ)) (fault : AnswerFault)
    → given ≡ commands → meaning_in d setup block_delete source ≡ Ok commands → MapsCommands most table setup.machine given old new (Err fault)
    → MapsDialect most table d setup block_delete source old new (Err fault)
dialect_unmapped most table d setup block_delete source commands given old new fault same means maps =
    by_fault fault (subst (λ (cs : List Command). MapsCommands most table setup.machine cs old new (Err fault)) same maps)
  where
    by_fault : (fault : AnswerFault) → MapsCommands most table setup.machine commands old new (Err fault)
        → MapsDialect most table d setup block_delete source old new (Err fault)
    by_fault answers.Memory maps = maps
    by_fault (answers.Write e) maps = (commands, means, maps)
    by_fault answers.NoMap maps = (commands, means, maps)
    by_fault _ maps = absurd maps

-- ---- which file isn't read

-- a map is of files that were read
pub map_read : (most : ℕ) (table : List ToolLimits) (d : Dialect) (setup : Setup) (block_delete : Bool) (source : List ℕ) (old new : Option (List ℕ))
    (outcome : Result Done AnswerFault) → MapsDialect most table d setup block_delete source old new outcome → IfErr outcome (λ fault. unread_by fault ≡ None)
map_read most table d setup block_delete source old new (Ok done) maps = tt
map_read most table d setup block_delete source old new (Err (answers.Input e)) maps = absurd maps.2
map_read most table d setup block_delete source old new (Err (answers.Read e)) maps = absurd maps.2
map_read most table d setup block_delete source old new (Err (answers.Certificate e)) maps = absurd maps.2
map_read most table d setup block_delete source old new (Err _) maps = refl
