-- What a command did with the options that were chosen, of the files as they were before.
use Rattle.std.proofs.Common.{◌≡◌, ℕ, List, Option, Some, None, IfSome, refl, subst, sym}
use Rattle.std.proofs.Math.Path.{fun_ext}
use Rattle.std.specs.Borrow.{Bor}
use Rattle.std.specs.Prelude.{IsSomeAnd, MatchOption, option_map}
use Rattle.ngc_command_line.specs.declared.options.Options.{Options}
use Rattle.ngc_dialect_choice.specs.Choice.{AnswersByMachine, Done, Stopped, IsByKey, IsByOption, deciding_file, given_name, key_in, other_name, with_dialect}
use Rattle.ngc_inputs.specs.Faults.{fault_line}
use Rattle.ngc_inputs.specs.Setups.{FileBytes, KeepsFiles}
use Rattle.ngc_inputs.specs.Unread.{ReportsUnread}
use Rattle.ngc_inputs.specs.declared.fault.AnswerFault.TheVariants.{Input as Unread}
use Rattle.ngc_simulator.specs.Answers.{Answers, Given, IsQuiet, Takes, Taking}
use Rattle.ngc_text.specs.declared.input_fault.InputFault.{InputFault}

-- the files were kept, and each was opened
same_files : (old new : FileBytes) (fails : Option (List ℕ) → Type 0) (before between after : ℕ) (options : Options) (output errors : Taking)
    (status : ℕ)
    → KeepsFiles old new → between ≡ before
    → Answers (record { bytes = new; fails = fails; failures = between; failures_now = after }) options output errors status →
    Answers (record { bytes = old; fails = fails; failures = before; failures_now = after }) options output errors status
same_files old new fails before between after options output errors status keeps counts answers =
    subst (λ (bytes : FileBytes). Answers (record { bytes = bytes; fails = fails; failures = before; failures_now = after }) options output errors status)
    (fun_ext keeps)
    (subst (λ (n : ℕ). Answers (record { bytes = new; fails = fails; failures = n; failures_now = after }) options output errors status) counts answers)

-- no machine file decides
pub by_option : (files : Given) (options chosen : Options) (name : Option (Bor (List ℕ))) (output errors : Taking) (status : ℕ)
    → None ≡ deciding_file options → option_map (λ n. n.now) name ≡ other_name (given_name options) → chosen ≡ with_dialect name options
    → Answers files chosen output errors status → (IsQuiet chosen → status ≡ 0 → errors.new ≡ errors.old) →
    AnswersByMachine files options output errors status
by_option files options chosen name output errors status undecided given same answers quiet = Done (record {
  chosen = chosen;
  choice =
      subst (λ (d : Option (List ℕ)). MatchOption d (IsByOption options chosen) (λ file. IsByKey (files.bytes (Some file)) options chosen)) undecided
      (record { name = name; same = same; given = given });
  answers = answers;
  quiet = quiet;
})

-- a machine file decides, and was read
pub by_key : (old new : FileBytes) (fails : Option (List ℕ) → Type 0) (before between after : ℕ) (options chosen : Options) (file : List ℕ)
    (name : Option (Bor (List ℕ))) (output errors : Taking) (status : ℕ)
    → Some file ≡ deciding_file options → IfSome (old (Some file)) (λ text. option_map (λ n. n.now) name ≡ key_in text) → KeepsFiles old new
    → between ≡ before → chosen ≡ with_dialect name options
    → Answers (record { bytes = new; fails = fails; failures = between; failures_now = after }) chosen output errors status
    → (IsQuiet chosen → status ≡ 0 → errors.new ≡ errors.old) →
    AnswersByMachine (record { bytes = old; fails = fails; failures = before; failures_now = after }) options output errors status
by_key old new fails before between after options chosen file name output errors status decides key keeps counts same answers quiet = Done (record {
  chosen = chosen;
  choice =
      subst (λ (d : Option (List ℕ)). MatchOption d (IsByOption options chosen) (λ f. IsByKey (old (Some f)) options chosen)) decides
      (record { name = name; same = same; key = key });
  answers = same_files old new fails before between after chosen output errors status keeps counts answers;
  quiet = quiet;
})

-- a machine file decides, and wasn't read
pub stopped : (files : Given) (options : Options) (file : List ℕ) (fault : InputFault) (output errors : Taking) (status : ℕ)
    → Some file ≡ deciding_file options
    → ReportsUnread files.fails (files.bytes (Some file)) files.failures files.failures_now fault
    → output.new ≡ output.old → output.failures_now ≡ output.failures → Takes errors (fault_line (Unread fault)) → status ≡ 1 →
    AnswersByMachine files options output errors status
stopped files options file fault output errors status decides unread untouched counts tells says = Stopped (record {
  fault = fault;
  unread =
      subst (λ (d : Option (List ℕ)). IsSomeAnd d (λ f. ReportsUnread files.fails (files.bytes (Some f)) files.failures files.failures_now fault)) decides
      unread;
  untouched = untouched;
  counts = counts;
  tells = tells;
  says = says;
})
