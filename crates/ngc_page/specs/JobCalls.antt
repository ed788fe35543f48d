-- The words of a call with its job file.
use Rattle.std.specs.Prelude.{◌≡◌, ◌⊎◌, ◌==◌, ◌||◌, ℕ, Bool, true, false, List, [], ◌∷◌, ◌++◌}
use Rattle.std.specs.Prelude.{Result, Ok, Err, codes}
use Rattle.std.specs.List.{list_any}
use Rattle.std.specs.Str.{IsUtf8}
use Rattle.std.specs.Str.Lines.{lines}
use Rattle.ngc_inputs.specs.Setups.{FileBytes}
use Rattle.ngc_job_calls.specs.Calls.{Call, Counts, IsCall, all_words, call_in}
use Rattle.ngc_job_calls.specs.Faults.{status_of, text_of}
use Rattle.ngc_job_calls.specs.declared.call.JobCall.{JobCall}
use Rattle.ngc_job_calls.specs.declared.fault.CallFault.{CallFault}
use Rattle.ngc_page.specs.Answered.{Receives, Space}
use Rattle.ngc_page.specs.Commanded.{IsUnread, TellsOnly}
use Rattle.ngc_page.specs.Passed.{job_passed}

-- each file could be opened
abbrev pub none_missed : Counts
none_missed = record { old = 0; new = 0 }

-- ---- words as the lines of a text

-- a line feed or a carriage return
abbrev pub is_break : ℕ → Bool
is_break b = b == 10 || b == 13

abbrev pub has_break : List ℕ → Bool
has_break word = list_any is_break word

abbrev pub lines_text : List (List ℕ) → List ℕ
lines_text [] = []
lines_text (word ∷ words) = word ++ codes "\n" ++ lines_text words

-- ---- what a call gets

-- The words for the command are handed over as the lines of a text, since none has a line break, and what the job
-- file added as a line of standard error.
pub record AreHanded (call : Call) (output errors : Space) (status : ℕ) : Type 0 where
  pub text : List ℕ
  pub unbroken : list_any has_break (all_words call) ≡ false
  pub written : text ≡ lines_text (all_words call)
  pub same : lines text ≡ all_words call
  pub says : status ≡ 0
  pub words_handed : Receives output text
  pub note_handed : Receives errors call.note

-- A word has a line break, so it can't be a line.
pub record IsBroken (call : Call) (output errors : Space) (status : ℕ) : Type 0 where
  pub broken : list_any has_break (all_words call) ≡ true
  pub says : status ≡ 2
  pub tells : TellsOnly (codes "error: a word of the call has a line break\n") output errors

-- the call isn't begun
pub record IsRefused (fault : CallFault) (output errors : Space) (status : ℕ) : Type 0 where
  pub says : status ≡ status_of fault
  pub tells : TellsOnly (text_of fault) output errors

abbrev pub HandsWords : Call → Space → Space → ℕ → Type 0
HandsWords call output errors status =
    AreHanded call output errors status ⊎ IsBroken call output errors status
    ⊎ IsUnread output errors status

abbrev pub Tells : Result JobCall CallFault → Space → Space → ℕ → Type 0
Tells (Ok call) output errors status = HandsWords (call_in call) output errors status
Tells (Err fault) output errors status = IsRefused fault output errors status

-- The words are read, with those that the job file adds as in the program. No file is unreadable.
pub record IsReadWith (files : FileBytes) (words : List (List ℕ)) (output errors : Space) (status : ℕ) :
    Type 0 where
  pub result : Result JobCall CallFault
  pub call : IsCall (λ _. ⊥) files none_missed words result
  pub tells : Tells result output errors status

-- the words are the lines of a text
abbrev pub ReadsText : FileBytes → List ℕ → Space → Space → ℕ → Type 0
ReadsText files text output errors status =
    IsReadWith files (lines text) output errors status ⊎ IsUnread output errors status

pub record TellsNoText (output errors : Space) (status : ℕ) : Type 0 where
  pub says : status ≡ 2
  pub tells : TellsOnly (codes "error: a word of the command line is no UTF-8 text\n") output errors

-- The words or the name are no text in UTF-8.
pub record IsNoText (words name : List ℕ) (output errors : Space) (status : ℕ) : Type 0 where
  pub wrong : ¬ (IsUtf8 words × IsUtf8 name)
  pub told : TellsNoText output errors status

-- The words and the name are texts in UTF-8, and the words are read.
pub record IsTextRead (words name job : List ℕ) (output errors : Space) (status : ℕ) : Type 0 where
  pub utf8 : IsUtf8 words × IsUtf8 name
  pub reads : ReadsText (job_passed name job) words output errors status

-- the call whose words are the lines of a text, with a job file of this name
abbrev pub CalledWith : List ℕ → List ℕ → List ℕ → Space → Space → ℕ → Type 0
CalledWith name job text output errors status =
    IsTextRead text name job output errors status ⊎ IsNoText text name output errors status
