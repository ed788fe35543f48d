-- What a job file says for a call: the words that it adds, or why it is refused. Our own.
use Rattle.std.specs.Prelude.{◌≡◌, ℕ, List, [], ◌∷◌, ◌==◌, Option, Some, None, Result, Ok, Err}
use Rattle.std.specs.Prelude.{Bool, ◌&&◌, if◌then◌else◌}
use Rattle.toml.specs.Data.{Data}
use Rattle.ngc_machine_files.specs.Tree.{tree_of}
use Rattle.ngc_machine_figures.specs.declared.refusal.FileRefusal.{FileRefusal}
use Rattle.ngc_refused_files.specs.Stops.{Stop, StopsWhere}
use Rattle.ngc_job_files.specs.Jobs.{Job, job_of, values_of}
use Rattle.ngc_job_files.specs.declared.job.JobSheet.{JobSheet}
use Rattle.ngc_job_words.specs.Added.{added_words}
use Rattle.ngc_job_words.specs.Commands.{Text}
use Rattle.ngc_job_words.specs.Folders.{folder_of}
use Rattle.ngc_job_calls.specs.Refused.{refused_text, no_document_text}
use Rattle.ngc_job_calls.specs.declared.fault.CallFault.{CallFault}
use Rattle.ngc_job_calls.specs.declared.fault.CallFault.TheVariants as faults

abbrev pub is_mark : ℕ → ℕ → ℕ → Bool
is_mark a b c = a == 239 && b == 187 && c == 191

-- the bytes after the byte order mark of UTF-8, if they begin with it
abbrev pub without_mark : Text → Text
without_mark (a ∷ b ∷ c ∷ rest) = if is_mark a b c then rest else a ∷ b ∷ c ∷ rest
without_mark bytes = bytes

abbrev pub job_in : JobSheet → Job
job_in sheet = values_of sheet

abbrev pub words_of : Text → Job → List Text → Result (List Text) Text
words_of name job words = Ok (added_words (folder_of name) job words)

abbrev pub refused : Text → Text → FileRefusal → Text
refused name bytes refusal = refused_text name bytes refusal

abbrev pub no_document : Text → Text → Stop → Text
no_document name bytes stop = no_document_text name bytes stop

abbrev pub words_said : Text → Text → List Text → Result Job FileRefusal → Result (List Text) Text
words_said name bytes words (Ok job) = words_of name job words
words_said name bytes words (Err refusal) = Err (refused name bytes refusal)

abbrev pub words_in : Text → Text → Data → List Text → Result (List Text) Text
words_in name bytes tree words = words_said name bytes words (job_of tree)

abbrev pub words_found : Text → Text → List Text → Stop → Option Data → Result (List Text) Text
words_found name bytes words stop None = Err (no_document name bytes stop)
words_found name bytes words stop (Some tree) = words_in name bytes tree words

abbrev pub words_by : Text → Text → List Text → Stop → Result (List Text) Text
words_by name bytes words stop = words_found name bytes words stop (tree_of bytes)

-- P of the words that a job file with this name and these bytes adds to the words of a call, or of what
-- is printed if it is refused
abbrev pub SaysJob : Text → Text → List Text → (Result (List Text) Text → Type 0) → Type 0
SaysJob name bytes words P =
    StopsWhere (without_mark bytes) (λ stop. P (words_by name (without_mark bytes) words stop))

-- ---- a result, unless memory was refused

abbrev pub FaultIs : CallFault → Text → Type 0
FaultIs (faults.Refused text) says = text.items ≡ says
FaultIs faults.Memory says = Unit {0}
FaultIs _ says = ⊥

abbrev pub FaultSays : CallFault → Result (List Text) Text → Type 0
FaultSays (faults.Refused text) says = says ≡ Err text.items
FaultSays faults.Memory says = Unit {0}
FaultSays _ says = ⊥

abbrev pub ResultIs : {X : Type 0} → (X → List Text) → Result X CallFault → Result (List Text) Text →
    Type 0
ResultIs texts (Ok added) says = says ≡ Ok (texts added)
ResultIs texts (Err fault) says = FaultSays fault says
