-- The result of writing all faults of a program. Our own.
use Rattle.std.specs.Prelude.{◌≡◌, ◌⊎◌, List, [], ◌∷◌, ℕ, Option, Some, None, Bool, true, false}
use Rattle.std.specs.Io.KnownBytes.{Appends, Keeps}
use Rattle.ngc_text.specs.Written.{AppendsPrefix}
use Rattle.ngc_line_reader.specs.declared.program.fault.ReadFault.TheVariants.{Device}
use Rattle.ngc_all_faults.specs.Faults.{AreFaults}
use Rattle.ngc_all_faults.specs.declared.search.TheConstants.{MOST_FAULTS}
use Rattle.ngc_all_faults.specs.declared.text_fault.TextFault.{TextFault}
use Rattle.ngc_all_faults.specs.declared.text_fault.TextFault.TheVariants.{Unread, Refused}
use Rattle.ngc_canonical.specs.State.{Setup}
use Rattle.ngc_canonical.specs.declared.fault.ProgramFault.TheVariants.{At}
use Rattle.ngc_certificate_text.specs.declared.piece.Setting.{Setting}
use Rattle.ngc_certificate_text.specs.declared.piece.Setting.TheVariants.{Off, On}
use Rattle.ngc_program_report.specs.FaultTexts.{faults_text}
use Rattle.ngc_report.specs.declared.form.Form.{Form}
use Rattle.ngc_inputs.specs.declared.fault.AnswerFault.{AnswerFault}
use Rattle.ngc_inputs.specs.declared.fault.AnswerFault.TheVariants as answers

-- the first fault with block delete off, or else with block delete on
abbrev pub first_among : List TextFault → List TextFault → Option (Setting × TextFault)
first_among (f ∷ fs) on = Some (Off, f)
first_among [] (f ∷ fs) = Some (On, f)
first_among [] [] = None

-- a text in memory is read: the failure of a device isn't its fault
abbrev pub is_of_text : TextFault → Bool
is_of_text (Unread Device) = false
is_of_text _ = true

-- the fault that is returned for it
abbrev pub answer_of : Setting → TextFault → AnswerFault
answer_of s (Unread e) = answers.Read e
answer_of s (Refused n e) = answers.Refused s (At n e)

-- the report of all faults of a text, of which this is the first
pub record IsFaultsReport (setup : Setup) (form : Form) (bytes : List ℕ) (s : Setting)
    (first : TextFault) (text : List ℕ) : Type 0 where
  pub off : List TextFault
  pub off_are : AreFaults setup false MOST_FAULTS (Some bytes) off
  pub on : List TextFault
  pub on_are : AreFaults setup true MOST_FAULTS (Some bytes) on
  pub is_first : first_among off on ≡ Some (s, first)
  pub tells : text ≡ faults_text form bytes first off on

-- the report was written, and its first fault is returned
pub record ReportedFaults (setup : Setup) (form : Form) (bytes : List ℕ) (old new : Option (List ℕ))
    (fault : AnswerFault) : Type 0 where
  pub setting : Setting
  pub first : TextFault
  pub answered : fault ≡ answer_of setting first
  pub text : List ℕ
  pub is_report : IsFaultsReport setup form bytes setting first text
  pub wrote : Appends old new text

-- or a prefix of it was written
pub record BrokenFaults (setup : Setup) (form : Form) (bytes : List ℕ)
    (old new : Option (List ℕ)) : Type 0 where
  pub setting : Setting
  pub first : TextFault
  pub text : List ℕ
  pub is_report : IsFaultsReport setup form bytes setting first text
  pub wrote : AppendsPrefix old new text

-- If the file can't be read once more, nothing is written.
abbrev pub ReportsFaults : Setup → Form → List ℕ → Option (List ℕ) → Option (List ℕ) → AnswerFault →
    Type 0
ReportsFaults setup form bytes old new (answers.Write e) = BrokenFaults setup form bytes old new
ReportsFaults setup form bytes old new fault =
    ((fault ≡ answers.Read Device) × Keeps old new) ⊎
    ReportedFaults setup form bytes old new fault
