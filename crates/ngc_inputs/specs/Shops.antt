-- The result of reading the machine file and the tool table.
use Rattle.std.specs.Prelude.{◌≡◌, ℕ, List, Option, Result, Ok, Err, IsOk}
use Rattle.ngc_machine_files.specs.Machine.{MachineFile, file_of}
use Rattle.ngc_machine_files.specs.declared.fault.FileFault.{FileFault}
use Rattle.ngc_machine_files.specs.Tools.{tools_of}
use Rattle.ngc_margins.specs.declared.changes.Changes.{Changes}
use Rattle.ngc_inputs.specs.declared.fault.AnswerFault.{AnswerFault}
use Rattle.ngc_inputs.specs.declared.fault.AnswerFault.TheVariants as answers
use Rattle.ngc_inputs.specs.declared.setup.Shop.{Shop}
use Rattle.ngc_inputs.specs.Setups.{FileBytes, IfMachine, IfTools, Refuses, changed_in}

-- a machine file, or a tool table, is refused or isn't read
abbrev pub RefusesMachine : FileBytes → Option (List ℕ) → AnswerFault → Type 0
RefusesMachine bytes name (answers.Machine e) = IfMachine bytes name (Refuses e)
RefusesMachine bytes name (answers.Input e) = Unit {0}
RefusesMachine bytes name _ = ⊥

abbrev pub RefusesTools : FileBytes → Option (List ℕ) → AnswerFault → Type 0
RefusesTools bytes name (answers.Tools e) = IfTools bytes name (Refuses e)
RefusesTools bytes name (answers.Input e) = Unit {0}
RefusesTools bytes name _ = ⊥

-- a refusal of one of the two files is that file's, and a tool table is refused after a machine
-- file that isn't
abbrev pub RefusesShop : FileBytes → Option (List ℕ) → Option (List ℕ) → AnswerFault → Type 0
RefusesShop bytes machine tools (answers.Tools e) =
    IfMachine bytes machine IsOk × RefusesTools bytes tools (answers.Tools e)
RefusesShop bytes machine tools fault = RefusesMachine bytes machine fault

abbrev pub ShopResultIs : FileBytes → Option (List ℕ) → Option (List ℕ) →
    Result Shop AnswerFault → Type 0
ShopResultIs bytes machine tools (Ok shop) =
    IfMachine bytes machine (λ says. says ≡ Ok (file_of shop.machine)) ×
    IfTools bytes tools (λ says. says ≡ Ok (tools_of shop.tools))
ShopResultIs bytes machine tools (Err fault) = RefusesShop bytes machine tools fault

-- what is read is a machine, and with these changes it is this one
abbrev pub IsPlaced : Changes → MachineFile → Result MachineFile FileFault → Type 0
IsPlaced changes machine says = changed_in changes says ≡ Ok machine

-- a refusal of the machine with these changes: of the file, or of the changes in a file that isn't
-- refused; any other is a refusal of one of the two files
abbrev pub RefusesPlaced : FileBytes → Option (List ℕ) → Option (List ℕ) → Changes →
    AnswerFault → Type 0
RefusesPlaced bytes machine tools changes (answers.Machine e) =
    IfMachine bytes machine (λ says. Refuses e (changed_in changes says))
RefusesPlaced bytes machine tools changes fault = RefusesShop bytes machine tools fault

-- the machine has these changes
abbrev pub PlacedResultIs : FileBytes → Option (List ℕ) → Option (List ℕ) → Changes →
    Result Shop AnswerFault → Type 0
PlacedResultIs bytes machine tools changes (Ok shop) =
    IfMachine bytes machine (IsPlaced changes (file_of shop.machine)) ×
    IfTools bytes tools (λ says. says ≡ Ok (tools_of shop.tools))
PlacedResultIs bytes machine tools changes (Err fault) =
    RefusesPlaced bytes machine tools changes fault
