-- The language in which a command reads its program: that of `--dialect`, where `ngc` names our own, or
-- else that of the key `dialect` of its machine file, or else our own. Our own.
use Rattle.std.specs.Prelude.{◌≡◌, ℕ, List, Option, Some, None, Result, Ok, Err, IfSome}
use Rattle.std.specs.Prelude.{IsSomeAnd, MatchOption, codes, if◌then◌else◌, option_map}
use Rattle.std.specs.Str.{bytes_eq}
use Rattle.std.specs.Borrow.{Bor}
use Rattle.ngc_command_line.specs.declared.options.Options.{Options}
use Rattle.ngc_command_line.specs.declared.options.Options.TheVariants as commands
use Rattle.ngc_dialect_names.specs.Names.{name_of}
use Rattle.ngc_inputs.specs.Faults.{fault_line}
use Rattle.ngc_inputs.specs.Setups.{FileBytes}
use Rattle.ngc_inputs.specs.Unread.{ReportsUnread}
use Rattle.ngc_inputs.specs.declared.fault.AnswerFault.TheVariants.{Input as Unread}
use Rattle.ngc_machine_files.specs.Machine.{MachineFile}
use Rattle.ngc_machine_files.specs.declared.fault.FileFault.{FileFault}
use Rattle.ngc_simulator.specs.Answers.{Answers, Given, IsQuiet, Takes, Taking}
use Rattle.ngc_text.specs.declared.input_fault.InputFault.{InputFault}
use Rattle.ngc_written_machines.specs.Reading.{any_machine}

-- the name of the language that a machine file names; one that is refused names none
abbrev pub key_of : Result MachineFile FileFault → Option (List ℕ)
key_of (Ok machine) = option_map name_of machine.dialect
key_of (Err fault) = None

abbrev pub key_in : List ℕ → Option (List ℕ)
key_in text = key_of (any_machine text)

-- the machine file, unless the command line names a language
abbrev pub unless_given : Option (Bor (List ℕ)) → Option (List ℕ) → Option (List ℕ)
unless_given None machine = machine
unless_given (Some name) machine = None

-- the machine file whose key decides
abbrev pub deciding_file : Options → Option (List ℕ)
deciding_file (commands.List options) =
    unless_given options.dialect (option_map (λ name. name.now) options.machine)
deciding_file (commands.Certify options) = unless_given options.dialect (Some options.machine.now)
deciding_file (commands.Check options) = unless_given options.dialect (Some options.machine.now)
deciding_file (commands.Run options) = unless_given options.dialect (Some options.machine.now)
deciding_file (commands.RunThrough options) =
    unless_given options.dialect (Some options.machine.now)
deciding_file (commands.Live options) = unless_given options.dialect (Some options.machine.now)
deciding_file (commands.Draw options) = unless_given options.dialect (Some options.machine.now)
deciding_file (commands.Report options) = unless_given options.dialect (Some options.machine.now)
deciding_file (commands.Place options) = unless_given options.dialect (Some options.machine.now)
deciding_file _ = None

-- the same options with this language
abbrev pub with_dialect : Option (Bor (List ℕ)) → Options → Options
with_dialect name (commands.List options) = commands.List (record options { dialect = name })
with_dialect name (commands.Certify options) = commands.Certify (record options { dialect = name })
with_dialect name (commands.Check options) = commands.Check (record options { dialect = name })
with_dialect name (commands.Run options) = commands.Run (record options { dialect = name })
with_dialect name (commands.RunThrough options) =
    commands.RunThrough (record options { dialect = name })
with_dialect name (commands.Live options) = commands.Live (record options { dialect = name })
with_dialect name (commands.Draw options) = commands.Draw (record options { dialect = name })
with_dialect name (commands.Report options) = commands.Report (record options { dialect = name })
with_dialect name (commands.Place options) = commands.Place (record options { dialect = name })
with_dialect name options = options

-- the language that the command line names
abbrev pub given_name : Options → Option (List ℕ)
given_name (commands.List options) = option_map (λ name. name.now) options.dialect
given_name (commands.Certify options) = option_map (λ name. name.now) options.dialect
given_name (commands.Check options) = option_map (λ name. name.now) options.dialect
given_name (commands.Run options) = option_map (λ name. name.now) options.dialect
given_name (commands.RunThrough options) = option_map (λ name. name.now) options.dialect
given_name (commands.Live options) = option_map (λ name. name.now) options.dialect
given_name (commands.Draw options) = option_map (λ name. name.now) options.dialect
given_name (commands.Report options) = option_map (λ name. name.now) options.dialect
given_name (commands.Place options) = option_map (λ name. name.now) options.dialect
given_name _ = None

-- the name of another control's language: `ngc` names our own
abbrev pub other_name : Option (List ℕ) → Option (List ℕ)
other_name None = None
other_name (Some name) = if bytes_eq name (codes "ngc") then None else Some name

-- options that are the same but for the name of our own language, which isn't there
pub record IsByOption (options chosen : Options) : Type 0 where
  pub name : Option (Bor (List ℕ))
  pub same : chosen ≡ with_dialect name options
  pub given : option_map (λ n. n.now) name ≡ other_name (given_name options)

-- Options that are the same but for the language, which is that of the machine file's key, where the
-- file's bytes are known.
pub record IsByKey (known : Option (List ℕ)) (options chosen : Options) : Type 0 where
  pub name : Option (Bor (List ℕ))
  pub same : chosen ≡ with_dialect name options
  pub key : IfSome known (λ text. option_map (λ n. n.now) name ≡ key_in text)

-- the language that the command line names, unless a machine file decides
abbrev pub IsChosen : FileBytes → Options → Options → Type 0
IsChosen bytes options chosen =
    MatchOption (deciding_file options) (IsByOption options chosen)
    (λ file. IsByKey (bytes (Some file)) options chosen)

-- a machine file decides, and it isn't read
abbrev pub StopsChoosing : (Option (List ℕ) → Type 0) → FileBytes → Options → ℕ → ℕ →
    InputFault → Type 0
StopsChoosing fails bytes options old new fault =
    IsSomeAnd (deciding_file options)
    (λ file. ReportsUnread fails (bytes (Some file)) old new fault)

-- the command was done with the options that were chosen
pub record IsDone (files : Given) (options : Options) (output errors : Taking) (status : ℕ) :
    Type 0 where
  pub chosen : Options
  pub choice : IsChosen files.bytes options chosen
  pub answers : Answers files chosen output errors status
  pub quiet : IsQuiet chosen → status ≡ 0 → errors.new ≡ errors.old

-- nothing was done, since the machine file that decides wasn't read; the second sink reports it
pub record IsStopped (files : Given) (options : Options) (output errors : Taking) (status : ℕ) :
    Type 0 where
  pub fault : InputFault
  pub unread :
      StopsChoosing files.fails files.bytes options files.failures files.failures_now fault
  pub untouched : output.new ≡ output.old
  pub counts : output.failures_now ≡ output.failures
  pub tells : Takes errors (fault_line (Unread fault))
  pub says : status ≡ 1

-- one of the two
pub data AnswersByMachine (files : Given) (options : Options) (output errors : Taking) (status : ℕ) :
    Type 0 where
  Done : IsDone files options output errors status → AnswersByMachine files options output errors status
  Stopped : IsStopped files options output errors status →
      AnswersByMachine files options output errors status
