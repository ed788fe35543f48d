-- The result of a command whose files are in memory.
use Rattle.std.proofs.Common.{◌≡◌, ◌∙◌, ◌<◌, ℕ, List, [], length, Bool, Option, Some, None, Err, inl, inr, ap, refl, subst}
use Rattle.std.specs.Prelude.{IsSomeAnd, unwrap_or}
use Rattle.ngc_text.specs.declared.input_fault.InputFault.{InputFault}
use Rattle.ngc_text.specs.declared.input_fault.InputFault.TheVariants as inputs
use Rattle.ngc_command_line.specs.declared.options.Options.{Options}
use Rattle.ngc_dialect_choice.specs.Choice.{AnswersByMachine, Done, Stopped, StopsChoosing, deciding_file}
use Rattle.ngc_inputs.specs.Setups.{FileBytes}
use Rattle.ngc_inputs.specs.Unread.{ReportsUnread, SourceFails}
use Rattle.ngc_inputs.specs.declared.fault.AnswerFault.TheVariants.{Input as Unread}
use Rattle.ngc_saved_files.specs.Files.{saved_bytes, source_failures}
use Rattle.ngc_saved_files.specs.Lines.{lines_of}
use Rattle.ngc_saved_files.specs.Notes.{IsNoted}
use Rattle.ngc_saved_files.specs.declared.files.SavedFiles.{SavedFiles}
use Rattle.ngc_saved_files.specs.declared.lines.FilesInLines.{FilesInLines}
use Rattle.ngc_saved_files.specs.declared.source.SavedSource.{SavedSource}
use Rattle.ngc_simulator.specs.Answers.{Given, Taking, inputs_of}
use Rattle.ngc_page.proofs.FileReading.{all_read, stops_of, unread}
use Rattle.ngc_page.specs.Answered.{IsResult, LINES_KEPT, ReportsUnreadable}
use Rattle.ngc_page.specs.Files.{bytes_of}
use Rattle.ngc_page.specs.declared.files.PassedFiles.{PassedFiles}

-- the file that decides wasn't read, and none is unreadable
readable : (decides : Option (List ℕ)) (bytes : FileBytes) (fault : InputFault)
    → IsSomeAnd decides (λ file. ReportsUnread (λ _. ⊥) (bytes (Some file)) 0 0 fault) → ReportsUnreadable (Some fault) → ⊥
readable None bytes fault stops says = stops
readable (Some file) bytes inputs.Device stops says = unread (λ _. ⊥) (λ known fails. fails) (bytes (Some file)) stops
readable (Some file) bytes inputs.Memory stops says = says
readable (Some file) bytes inputs.TooLong stops says = says

stops_in : {S : Type 0} (remaining : SavedSource S → Option (List ℕ)) (decides : Option (List ℕ)) (bytes : FileBytes) (fault : InputFault)
    → IsSomeAnd decides (λ file. ReportsUnread (SourceFails remaining (source_failures (λ _. 0))) (bytes (Some file)) 0 0 fault)
    → IsSomeAnd decides (λ file. ReportsUnread (λ _. ⊥) (bytes (Some file)) 0 0 fault)
stops_in remaining None bytes fault stops = stops
stops_in remaining (Some file) bytes fault stops = stops_of remaining (bytes (Some file)) fault stops

module _ {S : Type 0} (remaining : SavedSource S → Option (List ℕ)) (files : FileBytes) (options : Options) (text lines : List ℕ) (status : ℕ)
    (told : Option (List ℕ)) (failures failures_now missed failed : ℕ) (is_wide : Bool)
    (noted : IsNoted is_wide status told (Some lines) missed failed) (keeps : 0 < failed → length lines ≡ LINES_KEPT) where
  result_in : AnswersByMachine
      (record {
        bytes = saved_bytes (lines_of options) files;
        fails = SourceFails remaining (source_failures (λ _. 0));
        failures = 0;
        failures_now = 0;
      }) options (record { old = Some []; new = Some text; failures = failures; failures_now = failures_now })
      (record { old = Some []; new = told; failures = 0; failures_now = missed }) status
      → IsResult files options text lines status
  result_in (Done done) = record {
    outcome = done.answers.outcome;
    comes = inl (record { chosen = done.chosen; choice = done.choice; comes = done.answers.comes });
    says = done.answers.says;
    read = all_read remaining (saved_bytes (lines_of options) files) (inputs_of done.chosen) done.answers.outcome done.answers.unread;
    lines =
        record { told = told; missed = missed; failed = failed; is_wide = is_wide; tells = done.answers.tells; noted = noted; keeps = keeps };
  }
  result_in (Stopped stop) =
      let stops : StopsChoosing (λ _. ⊥) (saved_bytes (lines_of options) files) options 0 0 stop.fault =
      stops_in remaining (deciding_file options) (saved_bytes (lines_of options) files) stop.fault stop.unread in
      record {
        outcome = Err (Unread stop.fault);
        comes = inr (record { fault = stop.fault; stops = stops; nothing = ap (λ (it : Option (List ℕ)). unwrap_or it []) stop.untouched; reports = refl });
        says = stop.says;
        read = readable (deciding_file options) (saved_bytes (lines_of options) files) stop.fault stops;
        lines = record { told = told; missed = missed; failed = failed; is_wide = is_wide; tells = stop.tells; noted = noted; keeps = keeps };
      }

-- ---- the files as an editor saves them, and empty sinks

abbrev given : {S : Type 0} → (SavedSource S → Option (List ℕ)) → FilesInLines → PassedFiles → Given
given remaining lines files =
    record { bytes = saved_bytes lines (bytes_of files); fails = SourceFails remaining (source_failures (λ _. 0)); failures = 0; failures_now = 0 }

abbrev taking : Option (List ℕ) → Option (List ℕ) → ℕ → ℕ → Taking
taking old new failures failures_now = record { old = old; new = new; failures = failures; failures_now = failures_now }

taken : (sink : Taking) (old new : Option (List ℕ)) (failures : ℕ) → sink.old ≡ old → sink.new ≡ new → sink.failures ≡ failures
    → sink ≡ taking old new failures sink.failures_now
taken sink old new failures same_old same_new same_failures =
    ap (λ (it : Option (List ℕ)). taking it sink.new sink.failures sink.failures_now) same_old
    ∙ (ap (λ (it : Option (List ℕ)). taking old it sink.failures sink.failures_now) same_new
    ∙ ap (λ (it : ℕ). taking old new it sink.failures_now) same_failures)

pub result_of : {S : Type 0} (remaining : SavedSource S → Option (List ℕ)) (options : Options) (saved : SavedFiles PassedFiles) (output errors : Taking)
    (status : ℕ) (files : PassedFiles) (text lines : List ℕ) (failed : ℕ) (is_wide : Bool)
    → AnswersByMachine
    (record {
      bytes = saved_bytes saved.lines (bytes_of saved.inner);
      fails = SourceFails remaining (source_failures (λ _. 0));
      failures = 0;
      failures_now = 0;
    }) options output errors status
    → saved.lines ≡ lines_of options → saved.inner ≡ files → output.old ≡ Some [] → output.new ≡ Some text
    → errors.old ≡ Some [] → errors.failures ≡ 0
    → IsNoted is_wide status errors.new (Some lines) errors.failures_now failed → (0 < failed → length lines ≡ LINES_KEPT)
    → IsResult (bytes_of files) options text lines status
result_of remaining options saved output errors status files text lines failed is_wide answers same_lines same_files empty same_text quiet unmissed noted keeps =
    result_in remaining (bytes_of files) options text lines status errors.new output.failures output.failures_now errors.failures_now failed is_wide noted keeps
    (subst (λ (it : Taking). AnswersByMachine (given remaining (lines_of options) files) options
    (taking (Some []) (Some text) output.failures output.failures_now) it status) (taken errors (Some []) errors.new 0 quiet refl unmissed)
    (subst (λ (it : Taking). AnswersByMachine (given remaining (lines_of options) files) options it errors status)
    (taken output (Some []) (Some text) output.failures empty same_text refl)
    (subst (λ (it : PassedFiles). AnswersByMachine (given remaining (lines_of options) it) options output errors status) same_files
    (subst (λ (it : FilesInLines). AnswersByMachine (given remaining it saved.inner) options output errors status) same_lines answers))))
