-- What a call with its job file returns, where every file is in memory.
use Rattle.std.proofs.Common.{◌≡◌, ℕ, List, Option, Some, None, Result, Ok, Err, inl, inr}
use Rattle.ngc_inputs.specs.Setups.{FileBytes}
use Rattle.ngc_inputs.specs.Unread.{SourceFails}
use Rattle.ngc_job_calls.specs.Calls.{IsAsked, IsCall, IsFor, IsUnread, IsWithFile, StopsIn}
use Rattle.ngc_job_calls.specs.declared.call.JobCall.{JobCall}
use Rattle.ngc_job_calls.specs.declared.fault.CallFault.{CallFault}
use Rattle.ngc_job_calls.specs.declared.fault.CallFault.TheVariants as faults
use Rattle.ngc_job_words.specs.Asked.{AskedValues, asked_of}
use Rattle.ngc_job_words.specs.Folders.{File, job_file}
use Rattle.ngc_job_words.specs.declared.call.AskedFault.{AskedFault}
use Rattle.ngc_page.proofs.FileReading.{never_fails}
use Rattle.ngc_page.specs.JobCalls.{none_missed}

module _ (Fails : Option (List ℕ) → Type 0) (never : (known : Option (List ℕ)) → Fails known → ⊥) (bytes : FileBytes) where
  stops : (known : Option (List ℕ)) → StopsIn Fails known → StopsIn (λ _. ⊥) known
  stops known (inl fails) = inl (never known fails)
  stops known (inr long) = inr long

  unread : (file : File) → IsUnread Fails bytes none_missed file → IsUnread (λ _. ⊥) bytes none_missed file
  unread file (inl missed) = inl missed
  unread file (inr left) = inr (left.0, stops (bytes (Some file.name)) left.1)

  with_file : (file : File) (words : List (List ℕ)) (result : Result JobCall CallFault) → IsWithFile Fails bytes none_missed file words result
      → IsWithFile (λ _. ⊥) bytes none_missed file words result
  with_file file words (Ok call) h = h
  with_file file words (Err faults.Unread) h = unread file h
  with_file file words (Err faults.Memory) h = h
  with_file file words (Err (faults.Usage text)) h = h
  with_file file words (Err (faults.Refused text)) h = h

  for_file : (file : Option File) (words : List (List ℕ)) (result : Result JobCall CallFault) → IsFor Fails bytes none_missed words file result
      → IsFor (λ _. ⊥) bytes none_missed words file result
  for_file None words result h = h
  for_file (Some file) words result h = with_file file words result h

  as_asked : (asked : Result AskedValues AskedFault) (result : Result JobCall CallFault) → IsAsked Fails bytes none_missed asked result
      → IsAsked (λ _. ⊥) bytes none_missed asked result
  as_asked (Err fault) result h = h
  as_asked (Ok asked) result h = for_file (job_file asked.job asked.program) asked.words result h

pub call_in_memory : {S : Type 0} (remaining : S → Option (List ℕ)) (failures : S → ℕ) (none : (s : S) → failures s ≡ 0) (bytes : FileBytes)
    (words : List (List ℕ)) (result : Result JobCall CallFault) → IsCall (SourceFails remaining failures) bytes none_missed words result
    → IsCall (λ _. ⊥) bytes none_missed words result
call_in_memory remaining failures none bytes words result h =
    as_asked (SourceFails remaining failures) (never_fails remaining failures none) bytes (asked_of words) result h
