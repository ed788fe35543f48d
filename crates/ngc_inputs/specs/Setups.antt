-- The contents of the machine file and the tool table that a command line names.
use Rattle.std.specs.Prelude.{◌≡◌, ◌≢◌, ℕ, List, [], Option, Some, None, Result, Ok, Err, IfSome}
use Rattle.ngc_canonical.specs.State.{Setup}
use Rattle.ngc_file_figures.specs.Files.{FigureValues}
use Rattle.ngc_machine_files.specs.Machine.{MachineFile, built_in_machine}
use Rattle.ngc_machine_files.specs.declared.fault.FileFault.{FileFault}
use Rattle.ngc_machine_files.specs.declared.fault.FileFault.TheVariants.{Memory}
use Rattle.ngc_machine_files.specs.declared.tools.Tool.{Tool}
use Rattle.ngc_margins.specs.Changes.{changed}
use Rattle.ngc_margins.specs.declared.changes.Changes.{Changes}
use Rattle.ngc_written_machines.specs.Reading.{any_machine}
use Rattle.ngc_written_machines.specs.Written.{any_figures}
use Rattle.ngc_written_tools.specs.Reading.{any_limits, any_tools}

-- the bytes of a file by its name, or of standard input, where they are known
abbrev pub FileBytes : Type 0
FileBytes = Option (List ℕ) → Option (List ℕ)

-- P of a named file's contents, where its bytes are known, or of the default if none is named
abbrev pub IfParsed : {T : Type 0} → (List ℕ → Result T FileFault) → T → FileBytes → Option (List ℕ) →
    (Result T FileFault → Type 0) → Type 0
IfParsed read builtin bytes None P = P (Ok builtin)
IfParsed read builtin bytes (Some name) P = IfSome (bytes (Some name)) (λ text. P (read text))

-- P of what a named file says, where its bytes are known, or of nothing if none is named
abbrev pub IfSaid : {T : Type 0} → (List ℕ → T) → T → FileBytes → Option (List ℕ) → (T → Type 0) → Type 0
IfSaid read nothing bytes None P = P nothing
IfSaid read nothing bytes (Some name) P = IfSome (bytes (Some name)) (λ text. P (read text))

-- the figures that a machine file and a tool table say besides the machine and its tools
pub record AreFiguresIn (bytes : FileBytes) (machine_name table_name : Option (List ℕ)) (figures : FigureValues) : Type 0 where
  pub machine : IfSaid any_figures None bytes machine_name (λ f. figures.machine ≡ f)
  pub tools : IfSaid any_limits [] bytes table_name (λ l. figures.tools ≡ l)

-- the bytes of every file are as they were, and of every file with a name
abbrev pub KeepsFiles : FileBytes → FileBytes → Type 0
KeepsFiles old new = (name : Option (List ℕ)) → new name ≡ old name

abbrev pub KeepsNamed : FileBytes → FileBytes → Type 0
KeepsNamed old new = (name : List ℕ) → new (Some name) ≡ old (Some name)

-- the machine and its tools in the two files
pub record AreSetup (machine : Result MachineFile FileFault) (tools : Result (List Tool) FileFault)
    (setup : Setup) : Type 0 where
  pub parsed_machine : machine ≡ Ok setup.machine
  pub parsed_tools : tools ≡ Ok setup.tools

-- P of the contents of the machine file and the tool table, or of the defaults if none is named
abbrev pub IfMachine : FileBytes → Option (List ℕ) →
    (Result MachineFile FileFault → Type 0) → Type 0
IfMachine bytes name P = IfParsed any_machine built_in_machine bytes name P

abbrev pub IfTools : FileBytes → Option (List ℕ) → (Result (List Tool) FileFault → Type 0) → Type 0
IfTools bytes name P = IfParsed any_tools [] bytes name P

-- P of the machine with its tools in two files
abbrev pub OnSetup : FileBytes → Option (List ℕ) → Option (List ℕ) → (Setup → Type 0) → Type 0
OnSetup bytes machine tools P =
    IfMachine bytes machine
    (λ m. IfTools bytes tools (λ t. (setup : Setup) × AreSetup m t setup × P setup))

-- a machine that was read, with these changes, or the first refusal
abbrev pub changed_in : Changes → Result MachineFile FileFault → Result MachineFile FileFault
changed_in changes (Ok machine) = changed changes machine
changed_in changes (Err e) = Err e

-- P of the machine with these changes, and of its tools
abbrev pub OnPlaced : FileBytes → Option (List ℕ) → Option (List ℕ) → Changes →
    (Setup → Type 0) → Type 0
OnPlaced bytes machine tools changes P =
    IfMachine bytes machine (λ m. IfTools bytes tools
    (λ t. (setup : Setup) × AreSetup (changed_in changes m) t setup × P setup))

-- a refusal is that of the file, unless memory ran out
abbrev pub Refuses : {T : Type 0} → FileFault → Result T FileFault → Type 0
Refuses e says = e ≢ Memory → says ≡ Err e
