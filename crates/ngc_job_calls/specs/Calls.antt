-- A call with its job file. Our own.
use Rattle.std.specs.Prelude.{◌≡◌, ◌⊎◌, ◌<◌, ℕ, List, [], ◌++◌, length, map, string_bytes, Option, Some, None, Result, Ok, Err, IfSome, true, false}
use Rattle.ngc_text.specs.Failures.{Rises}
use Rattle.ngc_text.specs.declared.input_fault.InputFault.{InputFault}
use Rattle.ngc_text.specs.declared.input_fault.InputFault.TheVariants as inputs
use Rattle.ngc_inputs.specs.Setups.{FileBytes}
use Rattle.ngc_inputs.specs.declared.setup.TheConstants.{FILE_LIMIT}
use Rattle.ngc_job_words.specs.Asked.{AskedValues, asked_of, fault_text}
use Rattle.ngc_job_words.specs.Commands.{Text}
use Rattle.ngc_job_words.specs.Folders.{File, job_file}
use Rattle.ngc_job_words.specs.declared.call.AskedFault.{AskedFault}
use Rattle.ngc_job_words.specs.declared.call.AskedFault.TheVariants as asks
use Rattle.ngc_job_calls.specs.Notes.{note_text}
use Rattle.ngc_job_calls.specs.Said.{SaysJob}
use Rattle.ngc_job_calls.specs.declared.call.JobCall.{JobCall}
use Rattle.ngc_job_calls.specs.declared.fault.CallFault.{CallFault}
use Rattle.ngc_job_calls.specs.declared.fault.CallFault.TheVariants as faults

pub record Call : Type 0 where
  pub words : List Text
  pub added : List Text
  pub note : Text

abbrev pub call_in : JobCall → Call
call_in c =
    record { words = map (λ w. w.now) c.words.items; added = map string_bytes c.added.items; note = c.note.items }

-- the words for the command
abbrev pub all_words : Call → List Text
all_words call = call.words ++ call.added

abbrev pub without_job : List Text → Call
without_job words = record { words = words; added = []; note = [] }

-- ---- the text of a job file

-- how often a file couldn't be opened, before and after
pub record Counts : Type 0 where
  pub old : ℕ
  pub new : ℕ

abbrev pub IsOpened : Counts → Type 0
IsOpened counts = counts.new ≡ counts.old

abbrev pub IsUnopened : Counts → Type 0
IsUnopened counts = Rises counts.old counts.new

-- the text that was read, or none: a file that the words don't name may be missing
abbrev pub IsText : FileBytes → Counts → File → Option Text → Type 0
IsText bytes counts file (Some text) =
    IsOpened counts × IfSome (bytes (Some file.name)) (λ known. text ≡ known)
IsText bytes counts file None = IsUnopened counts × (file.is_named ≡ false)

-- the source of an opened file with these bytes fails, or there are too many of them
abbrev pub StopsIn : (Option Text → Type 0) → Option Text → Type 0
StopsIn Fails known = Fails known ⊎ IfSome known (λ text. FILE_LIMIT < length text)

-- a file that the words name can't be opened, or an opened file can't be read to its end
abbrev pub IsUnread : (Option Text → Type 0) → FileBytes → Counts → File → Type 0
IsUnread Fails bytes counts file =
    (IsUnopened counts × (file.is_named ≡ true)) ⊎ (IsOpened counts × StopsIn Fails (bytes (Some file.name)))

abbrev pub TextIs : (Option Text → Type 0) → FileBytes → Counts → File →
    Result (Option Text) CallFault → Type 0
TextIs Fails bytes counts file (Ok text) = IsText bytes counts file text
TextIs Fails bytes counts file (Err faults.Unread) = IsUnread Fails bytes counts file
TextIs Fails bytes counts file (Err faults.Memory) = Unit {0}
TextIs Fails bytes counts file (Err _) = ⊥

abbrev pub read_fault : InputFault → CallFault
read_fault inputs.Memory = faults.Memory
read_fault _ = faults.Unread

-- ---- the call, or why it isn't begun; nothing is claimed where memory was refused

-- the words as they are
abbrev pub IsAlone : List Text → Result JobCall CallFault → Type 0
IsAlone words (Ok call) = call_in call ≡ without_job words
IsAlone words (Err faults.Memory) = Unit {0}
IsAlone words (Err _) = ⊥

-- the words, with those that a job file with this name and this text adds, and the line on it
abbrev pub IsCallBy : Text → Text → List Text → Call → Type 0
IsCallBy name text words call =
    (call.words ≡ words) × SaysJob name text words (λ says. says ≡ Ok call.added)
    × (call.note ≡ note_text name call.added)

abbrev pub IsWithText : Text → Text → List Text → Result JobCall CallFault → Type 0
IsWithText name text words (Ok call) = IsCallBy name text words (call_in call)
IsWithText name text words (Err (faults.Refused said)) =
    SaysJob name text words (λ says. says ≡ Err said.items)
IsWithText name text words (Err faults.Memory) = Unit {0}
IsWithText name text words (Err _) = ⊥

abbrev pub IsWith : Text → Option Text → List Text → Result JobCall CallFault → Type 0
IsWith name None words result = IsAlone words result
IsWith name (Some text) words result = IsWithText name text words result

abbrev pub IsWithFile : (Option Text → Type 0) → FileBytes → Counts → File → List Text →
    Result JobCall CallFault → Type 0
IsWithFile Fails bytes counts file words (Err faults.Unread) = IsUnread Fails bytes counts file
IsWithFile Fails bytes counts file words (Err faults.Memory) = Unit {0}
IsWithFile Fails bytes counts file words result =
    (text : Option Text) × IsText bytes counts file text × IsWith file.name text words result

abbrev pub IsFor : (Option Text → Type 0) → FileBytes → Counts → List Text → Option File →
    Result JobCall CallFault → Type 0
IsFor Fails bytes counts words None result = IsAlone words result
IsFor Fails bytes counts words (Some file) result = IsWithFile Fails bytes counts file words result

abbrev pub IsUsageBy : AskedFault → CallFault → Type 0
IsUsageBy asks.Memory faults.Memory = Unit {0}
IsUsageBy asks.Memory _ = ⊥
IsUsageBy fault (faults.Usage text) = text.now ≡ fault_text fault
IsUsageBy fault _ = ⊥

-- the words are refused, with the text of their mistake
abbrev pub IsUsage : AskedFault → Result JobCall CallFault → Type 0
IsUsage fault (Err (faults.Usage text)) = text.now ≡ fault_text fault
IsUsage fault (Err faults.Memory) = Unit {0}
IsUsage fault _ = ⊥

abbrev pub IsAsked : (Option Text → Type 0) → FileBytes → Counts → Result AskedValues AskedFault →
    Result JobCall CallFault → Type 0
IsAsked Fails bytes counts (Err fault) result = IsUsage fault result
IsAsked Fails bytes counts (Ok asked) result =
    IsFor Fails bytes counts asked.words (job_file asked.job asked.program) result

-- the call of these words, with its job file, or why it isn't begun
abbrev pub IsCall : (Option Text → Type 0) → FileBytes → Counts → List Text →
    Result JobCall CallFault → Type 0
IsCall Fails bytes counts words result = IsAsked Fails bytes counts (asked_of words) result
