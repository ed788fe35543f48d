-- What a call with its job file returns.
use Rattle.std.proofs.Common.{◌≡◌, ◌<◌, ℕ, List, length, Option, Some, None, Result, Ok, Err, inl, inr, refl, subst}
use Rattle.std.specs.Prelude.{IfSome}
use Rattle.ngc_text.specs.Failures.{Rises}
use Rattle.ngc_text.specs.declared.input_fault.InputFault.{InputFault}
use Rattle.ngc_text.specs.declared.input_fault.InputFault.TheVariants as inputs
use Rattle.ngc_inputs.specs.Setups.{FileBytes}
use Rattle.ngc_inputs.specs.Unread.{SourceFails}
use Rattle.ngc_inputs.specs.declared.setup.TheConstants.{FILE_LIMIT}
use Rattle.ngc_job_calls.specs.Calls.{Counts, IsAsked, IsFor, IsOpened, IsText, IsUsageBy, IsWithFile, IsWithText, TextIs, read_fault}
use Rattle.ngc_job_calls.specs.Said.{FaultSays, SaysJob}
use Rattle.ngc_job_calls.specs.declared.call.JobCall.{JobCall}
use Rattle.ngc_job_calls.specs.declared.fault.CallFault.{CallFault}
use Rattle.ngc_job_calls.specs.declared.fault.CallFault.TheVariants as faults
use Rattle.ngc_job_words.specs.Asked.{AskedIs, AskedValues}
use Rattle.ngc_job_words.specs.Commands.{Text}
use Rattle.ngc_job_words.specs.Folders.{File, job_file}
use Rattle.ngc_job_words.specs.declared.call.AskedFault.{AskedFault}
use Rattle.ngc_job_words.specs.declared.call.AskedFault.TheVariants as asks

-- ---- the text of a job file

pub stopped : {S : Type 0} (remaining : S → Option Text) (failures : S → ℕ) (bytes : FileBytes)
    (counts : Counts) (file : File) (opened left : S) (fault : InputFault) → IsOpened counts
    → remaining opened ≡ bytes (Some file.name)
    → (fault ≡ inputs.Device → Rises (failures opened) (failures left))
    → (fault ≡ inputs.TooLong → IfSome (remaining opened) (λ known. FILE_LIMIT < length known))
    → TextIs (SourceFails remaining failures) bytes counts file (Err (read_fault fault))
stopped remaining failures bytes counts file opened left inputs.Memory is gave fails long = tt
stopped remaining failures bytes counts file opened left inputs.Device is gave fails long =
    inr (is, inl (record { opened = opened; left = left; gave = gave; fails = fails refl }))
stopped remaining failures bytes counts file opened left inputs.TooLong is gave fails long =
    inr (is, inr (rw gave at (long refl)))

-- ---- the words that it adds

pub unsaid : (name text : Text) (words : List Text) (fault : CallFault)
    → SaysJob name text words (FaultSays fault) → IsWithText name text words (Err fault)
unsaid name text words (faults.Refused said) says = says
unsaid name text words faults.Memory says = tt
unsaid name text words faults.Unread says = absurd says.holds
unsaid name text words (faults.Usage said) says = absurd says.holds

pub with_text : (Fails : Option Text → Type 0) (bytes : FileBytes) (counts : Counts) (file : File) (text : Text)
    (words : List Text) (result : Result JobCall CallFault) → IsText bytes counts file (Some text)
    → IsWithText file.name text words result → IsWithFile Fails bytes counts file words result
with_text Fails bytes counts file text words (Ok call) is says = (Some text, is, says)
with_text Fails bytes counts file text words (Err (faults.Refused said)) is says = (Some text, is, says)
with_text Fails bytes counts file text words (Err faults.Memory) is says = tt
with_text Fails bytes counts file text words (Err faults.Unread) is says = absurd says
with_text Fails bytes counts file text words (Err (faults.Usage said)) is says = absurd says

pub unread : (Fails : Option Text → Type 0) (bytes : FileBytes) (counts : Counts) (file : File)
    (words : List Text) (fault : CallFault) → TextIs Fails bytes counts file (Err fault)
    → IsWithFile Fails bytes counts file words (Err fault)
unread Fails bytes counts file words faults.Unread is = is
unread Fails bytes counts file words faults.Memory is = tt
unread Fails bytes counts file words (faults.Refused said) is = absurd is
unread Fails bytes counts file words (faults.Usage said) is = absurd is

-- ---- the call

for_memory : (Fails : Option Text → Type 0) (bytes : FileBytes) (counts : Counts) (words : List Text)
    (file : Option File) → IsFor Fails bytes counts words file (Err faults.Memory)
for_memory Fails bytes counts words None = tt
for_memory Fails bytes counts words (Some file) = tt

pub memory : (Fails : Option Text → Type 0) (bytes : FileBytes) (counts : Counts)
    (says : Result AskedValues AskedFault) → IsAsked Fails bytes counts says (Err faults.Memory)
memory Fails bytes counts (Ok asked) =
    for_memory Fails bytes counts asked.words (job_file asked.job asked.program)
memory Fails bytes counts (Err fault) = tt

pub found : (Fails : Option Text → Type 0) (bytes : FileBytes) (counts : Counts)
    (says : Result AskedValues AskedFault) (asked : AskedValues) (file : Option File)
    (result : Result JobCall CallFault) → says ≡ Ok asked → file ≡ job_file asked.job asked.program
    → IsFor Fails bytes counts asked.words file result → IsAsked Fails bytes counts says result
found Fails bytes counts says asked file result is same for =
    rw is (subst (λ (f : Option File). IsFor Fails bytes counts asked.words f result) same for)

pub refused : (Fails : Option Text → Type 0) (bytes : FileBytes) (counts : Counts)
    (says : Result AskedValues AskedFault) (fault : AskedFault) (why : CallFault)
    → AskedIs (Err fault) says → IsUsageBy fault why → IsAsked Fails bytes counts says (Err why)
refused Fails bytes counts says asks.Memory faults.Memory is by = memory Fails bytes counts says
refused Fails bytes counts says asks.Twice (faults.Usage text) is by = rw is by
refused Fails bytes counts says asks.NoFile (faults.Usage text) is by = rw is by
refused Fails bytes counts says asks.Memory (faults.Usage text) is by = absurd by
refused Fails bytes counts says asks.Memory (faults.Refused text) is by = absurd by
refused Fails bytes counts says asks.Memory faults.Unread is by = absurd by
refused Fails bytes counts says asks.Twice (faults.Refused text) is by = absurd by
refused Fails bytes counts says asks.Twice faults.Memory is by = absurd by
refused Fails bytes counts says asks.Twice faults.Unread is by = absurd by
refused Fails bytes counts says asks.NoFile (faults.Refused text) is by = absurd by
refused Fails bytes counts says asks.NoFile faults.Memory is by = absurd by
refused Fails bytes counts says asks.NoFile faults.Unread is by = absurd by
