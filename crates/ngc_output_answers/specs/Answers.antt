-- The result of a call whose output goes to a file. Our own.
use Rattle.std.specs.Prelude.{◌≡◌, ◌≢◌, ℕ, List, [], Option, IfSome}
use Rattle.ngc_command_line.specs.declared.options.Options.{Options}
use Rattle.ngc_dialect_choice.specs.Choice.{AnswersByMachine}
use Rattle.ngc_output_file.specs.Outputs.{IsWritten, KeepsAll, OutputBytes}
use Rattle.ngc_output_answers.specs.Faults.{output_fault_text}
use Rattle.ngc_output_answers.specs.declared.fault.OutputFault.{OutputFault}
use Rattle.ngc_output_answers.specs.declared.fault.OutputFault.TheVariants.{NotWritten}
use Rattle.ngc_simulator.specs.Answers.{Given, Takes, Taking}

-- the files that may be written, before the call and after it
pub record Folder : Type 0 where
  pub old : OutputBytes
  pub new : OutputBytes

-- Nothing was read, and no file was changed: the output file can't be made, or the command line names it as a file
-- to read. The second sink gets the lines that say so.
pub record IsHeldBack (files : Given) (folder : Folder) (errors : Taking) (status : ℕ) : Type 0 where
  pub fault : OutputFault
  pub kept : KeepsAll folder.old folder.new
  pub unread : files.failures_now ≡ files.failures
  pub tells : Takes errors (output_fault_text fault)
  pub says : status ≡ 1

-- The command was done, with a new file as its output, which was empty before. If the status is 0, the file has its
-- name, and otherwise no file was changed.
pub record IsFiled (files : Given) (options : Options) (name : List ℕ) (folder : Folder) (errors : Taking)
    (status : ℕ) : Type 0 where
  pub draft : Taking
  pub empty : IfSome draft.old (λ text. text ≡ [])
  pub answers : AnswersByMachine files options draft errors status
  pub done : status ≡ 0 → IsWritten folder.old folder.new name draft.new
  pub refused : status ≢ 0 → KeepsAll folder.old folder.new

-- The command was done, but the file didn't get its name: no file was changed.
pub record IsUnfiled (files : Given) (options : Options) (folder : Folder) (errors : Taking) (status : ℕ) :
    Type 0 where
  pub draft : Taking
  pub told : Option (List ℕ)
  pub told_failures : ℕ
  pub answers : AnswersByMachine files options draft
      (record { old = errors.old; new = told; failures = errors.failures; failures_now = told_failures }) 0
  pub kept : KeepsAll folder.old folder.new
  pub tells : Takes
      (record { old = told; new = errors.new; failures = told_failures; failures_now = errors.failures_now })
      (output_fault_text NotWritten)
  pub says : status ≡ 1

-- The output goes to the file of this name.
pub data AnswersFile (files : Given) (options : Options) (name : List ℕ) (folder : Folder) (errors : Taking)
    (status : ℕ) : Type 0 where
  HeldBack : IsHeldBack files folder errors status → AnswersFile files options name folder errors status
  Filed : IsFiled files options name folder errors status → AnswersFile files options name folder errors status
  Unfiled : IsUnfiled files options folder errors status → AnswersFile files options name folder errors status
