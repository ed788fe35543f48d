-- All faults of a text. Our own.
use Rattle.std.specs.Prelude.{◌≡◌, ◌⊎◌, ℕ, ◌-◌, ◌≤◌, List, [], ◌∷◌, Option, Some, None, Result, Ok, Err}
use Rattle.std.specs.Prelude.{Bool, option_map}
use Rattle.ngc_line_reader.specs.Grammar.{Reading}
use Rattle.ngc_line_reader.specs.ProgramText.{ProgramText, program_of, AreReadings}
use Rattle.ngc_line_reader.specs.ReadFaults.{number_of as read_number}
use Rattle.ngc_line_reader.specs.declared.program.fault.ReadFault.{ReadFault}
use Rattle.ngc_line_reader.specs.declared.program.fault.ReadFault.TheVariants as reads
use Rattle.ngc_commands.specs.declared.command.Command.{Command}
use Rattle.ngc_canonical.specs.Faults.{fault_number}
use Rattle.ngc_canonical.specs.Meaning.{meaning, parsed_program}
use Rattle.ngc_canonical.specs.State.{Setup}
use Rattle.ngc_canonical.specs.declared.fault.Fault.{Fault}
use Rattle.ngc_canonical.specs.declared.fault.Fault.TheVariants.{NoEnd}
use Rattle.ngc_canonical.specs.declared.fault.ProgramFault.{ProgramFault}
use Rattle.ngc_canonical.specs.declared.fault.ProgramFault.TheVariants.{At}
use Rattle.ngc_all_faults.specs.Emptied.{emptied}
use Rattle.ngc_all_faults.specs.declared.text_fault.TextFault.{TextFault}
use Rattle.ngc_all_faults.specs.declared.text_fault.TextFault.TheVariants.{Unread, Refused}

-- ---- one fault

abbrev pub read_line_of : ReadFault → Option ℕ
read_line_of (reads.Line n e) = Some n
read_line_of _ = None

-- the fault that a program has no end is in no line
abbrev pub refused_line_of : ℕ → Fault → Option ℕ
refused_line_of n NoEnd = None
refused_line_of n _ = Some n

-- the line of a fault
abbrev pub line_of : TextFault → Option ℕ
line_of (Unread e) = read_line_of e
line_of (Refused n e) = refused_line_of n e

abbrev pub number_of : TextFault → ℕ
number_of (Unread e) = read_number e
number_of (Refused n e) = fault_number e

-- ---- the first fault

-- a text is a program with this meaning
pub record Means (setup : Setup) (block_delete : Bool) (bytes : List ℕ)
    (outcome : Result (List Command) ProgramFault) : Type 0 where
  pub text : ProgramText
  pub is_text : program_of bytes ≡ Ok text
  pub readings : List Reading
  pub are_readings : AreReadings text.lines readings
  pub means : meaning (parsed_program text readings) setup block_delete ≡ outcome

abbrev pub HasFirst : Setup → Bool → List ℕ → TextFault → Type 0
HasFirst setup block_delete bytes (Unread e) = program_of bytes ≡ Err e
HasFirst setup block_delete bytes (Refused n e) = Means setup block_delete bytes (Err (At n e))

-- why a text can't be read, or else why its program is refused, or neither
abbrev pub IsFirst : Setup → Bool → List ℕ → Option TextFault → Type 0
IsFirst setup block_delete bytes None =
    (commands : List Command) × Means setup block_delete bytes (Ok commands)
IsFirst setup block_delete bytes (Some f) = HasFirst setup block_delete bytes f

-- ---- all faults

-- the text with the line of a fault emptied, or none if it is in no line
abbrev pub after : TextFault → List ℕ → Option (List ℕ)
after f bytes = option_map (λ n. emptied n bytes) (line_of f)

-- The faults of a text, at most `most`: the first, and then those of the text with its line
-- emptied. None is missing: they end if the text has no fault, or after `most` faults.
abbrev pub AreFaults : Setup → Bool → ℕ → Option (List ℕ) → List TextFault → Type 0
AreFaults setup block_delete most None [] = Unit {0}
AreFaults setup block_delete most None (f ∷ fs) = ⊥
AreFaults setup block_delete most (Some bytes) [] =
    (most ≡ 0) ⊎ IsFirst setup block_delete bytes None
AreFaults setup block_delete most (Some bytes) (f ∷ fs) =
    (1 ≤ most) × (HasFirst setup block_delete bytes f ×
    AreFaults setup block_delete (most - 1) (after f bytes) fs)
