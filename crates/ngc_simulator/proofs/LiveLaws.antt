-- The result of a run whose events arrive from a source, from the results of its parts.
use Rattle.std.proofs.Common.{◌≡◌, ℕ, List, Option, Some, None, Bool, Result, Ok, Err, IfSome, sym, subst, ◌∙◌}
use Rattle.std.specs.Prelude.{MatchBool}
use Rattle.ngc_canonical.specs.Interpreter.{setup_of}
use Rattle.ngc_canonical.specs.State.{Setup}
use Rattle.ngc_checker.specs.Accepted.{AcceptedData, Answers, commands_at}
use Rattle.ngc_checker.specs.declared.fault.CheckFault.{CheckFault}
use Rattle.ngc_command_line.specs.declared.options.LiveOptions.{LiveOptions}
use Rattle.ngc_machine_model.specs.Headline.{job_of}
use Rattle.ngc_text.specs.Failures.{Rises}
use Rattle.ngc_text.specs.declared.input_fault.InputFault.TheVariants as inputs
use Rattle.ngc_run_log.specs.declared.live_fault.LiveFault.{LiveFault}
use Rattle.ngc_run_log.specs.declared.live_fault.LiveFault.TheVariants as live
use Rattle.ngc_run_log.specs.declared.live_form.LiveForm.{LiveForm}
use Rattle.ngc_run_through.specs.declared.report.RunFault.{RunFault}
use Rattle.ngc_run_through.specs.declared.report.RunFault.TheVariants as runs
use Rattle.ngc_run_log.specs.Living.{FailsBeforeRest, FailsLive, LiveData, LivesOn, LivesToRest}
use Rattle.ngc_simulator.specs.Answers.{LivesOnFiles, live_request}
use Rattle.ngc_simulator.specs.declared.live_request.LiveRequest.{LiveRequest}
use Rattle.ngc_inputs.specs.Faults.{FailsWith, OfLiving, of_live, of_run}
use Rattle.ngc_inputs.specs.Judging.{IsVerdict, Verdict}
use Rattle.ngc_simulator.specs.Lives.{Lives, LivesAt}
use Rattle.ngc_inputs.specs.Setups.{FileBytes, KeepsFiles, KeepsNamed}
use Rattle.ngc_inputs.specs.Shops.{PlacedResultIs}
use Rattle.ngc_inputs.specs.declared.fault.AnswerFault.{AnswerFault}
use Rattle.ngc_inputs.specs.declared.fault.AnswerFault.TheVariants as answers
use Rattle.ngc_inputs.specs.declared.setup.Shop.{Shop}
use Rattle.ngc_inputs.proofs.JobLaws.{keeps_same}
use Rattle.ngc_simulator.proofs.RunLaws.{accepted_job, on_two_files}
use Rattle.ngc_inputs.proofs.SetupLaws.{on_placed}

-- ---- of the verdict on two files

pub live_refused : (request : LiveRequest) (setup : Setup) (bytes text : List ℕ) (block_delete : Bool) (source rest known : Option (List ℕ))
    (verdict : Verdict) (fault : CheckFault)
    → IsVerdict setup bytes text verdict → verdict ≡ Err fault
    → Lives request setup bytes text block_delete source rest known known (Err (answers.Check fault))
live_refused request setup bytes text block_delete source rest known verdict fault is refuses = (
  record {
    program = is.program;
    certificate = is.certificate;
    given = is.given;
    first = subst (Answers (λ a. a) is.program setup is.certificate) refuses is.answers;
  },
  keeps_same known,
)

pub live_unmade : (request : LiveRequest) (setup : Setup) (bytes text : List ℕ) (block_delete : Bool) (source rest known : Option (List ℕ))
    (verdict : Verdict) (a : AcceptedData) (fault : RunFault)
    → IsVerdict setup bytes text verdict → verdict ≡ Ok a → fault ≡ runs.Memory
    → Lives request setup bytes text block_delete source rest known known (Err (of_run fault))
live_unmade request setup bytes text block_delete source rest known verdict a fault is accepts memory =
    let P : RunFault → Type 0 = λ f. Lives request setup bytes text block_delete source rest known known (Err (of_run f)) in
    subst P (sym memory)
    ((job_of a.machine (commands_at block_delete a), accepted_job setup bytes text block_delete verdict a is accepts), keeps_same known)

pub lived : (request : LiveRequest) (setup : Setup) (bytes text : List ℕ) (block_delete : Bool) (source rest old new : Option (List ℕ))
    (verdict : Verdict) (a : AcceptedData) (live : LiveData) (result : Result (Unit {0}) LiveFault)
    → IsVerdict setup bytes text verdict → verdict ≡ Ok a → live.job ≡ job_of a.machine (commands_at block_delete a) → live.feeds ≡ request.feeds_ring
    → MatchBool request.aborts (LivesOn request.form live source rest old new result) (LivesToRest request.form live source rest old new result) → LivesAt request setup bytes text block_delete source rest old new result
lived request setup bytes text block_delete source rest old new verdict a live result is accepts job fed lives = record {
  job = job_of a.machine (commands_at block_delete a);
  accepted = accepted_job setup bytes text block_delete verdict a is accepts;
  live = live;
  is_job = job;
  is_fed = fed;
  lives = lives;
}

pub live_failed : (request : LiveRequest) (setup : Setup) (bytes text : List ℕ) (block_delete : Bool) (source rest old new : Option (List ℕ)) (fault : LiveFault)
    → LivesAt request setup bytes text block_delete source rest old new (Err fault)
    → Lives request setup bytes text block_delete source rest old new (Err (of_live fault))
live_failed request setup bytes text block_delete source rest old new (live.Events e) lives = lives
live_failed request setup bytes text block_delete source rest old new live.Read lives = lives
live_failed request setup bytes text block_delete source rest old new (live.Write e) lives = lives

-- ---- which faults

pub of_living : (fault : LiveFault) → OfLiving (of_live fault)
of_living (live.Events e) = tt
of_living live.Read = tt
of_living (live.Write e) = tt

pub device_failed : (fault : LiveFault) (old new : ℕ) → FailsBeforeRest (Err fault) old new → of_live fault ≡ answers.Input inputs.Device → Rises old new
device_failed (live.Events e) old new same is = absurd (cc is)
device_failed live.Read old new rises is = rises
device_failed (live.Write e) old new same is = absurd (cc is)

pub output_failed : (fault : LiveFault) (old new : ℕ) → FailsLive {A = Unit {0}} (Err fault) old new → FailsWith (of_live fault) old new
output_failed (live.Events e) old new same = same
output_failed live.Read old new same = same
output_failed (live.Write e) old new rises = rises

-- ---- of the files that the command line names

pub lived_files : (bytes after later : FileBytes) (options : LiveOptions) (form : LiveForm) (shop : Shop) (old new : Option (List ℕ))
    (outcome : Result (Unit {0}) AnswerFault) (P Q : List ℕ → Type 0)
    → PlacedResultIs bytes (Some options.machine.now) (Some options.tools.now) options.changes (Ok shop) → KeepsFiles bytes after → KeepsNamed after later
    → IfSome (after (Some options.program.now)) P → IfSome (later (Some options.certificate.now)) Q
    → ((a b : List ℕ) → P a → Q b →
    (rest : Option (List ℕ)) × Lives (live_request options form) (setup_of shop.machine shop.tools) a b options.delete (bytes None) rest old new outcome)
    → LivesOnFiles bytes options form old new outcome
lived_files bytes after later options form shop old new outcome P Q said keeps named p q on =
    on_placed bytes (Some options.machine.now) (Some options.tools.now) options.changes (setup_of shop.machine shop.tools)
    (λ setup. IfSome (bytes (Some options.program.now))
    (λ a. IfSome (bytes (Some options.certificate.now))
    (λ b. (rest : Option (List ℕ)) × Lives (live_request options form) setup a b options.delete (bytes None) rest old new outcome)))
    said.0 said.1
    (on_two_files _ _ _ _ P Q
    (λ a b. (rest : Option (List ℕ)) × Lives (live_request options form) (setup_of shop.machine shop.tools) a b options.delete (bytes None) rest old new outcome)
    (keeps (Some options.program.now))
    (named options.certificate.now ∙ keeps (Some options.certificate.now)) on p q)

-- a source with the bytes of standard input
pub from_input : (request : LiveRequest) (setup : Setup) (bytes text : List ℕ) (block_delete : Bool) (source input rest old new : Option (List ℕ))
    (outcome : Result (Unit {0}) AnswerFault) → source ≡ input → Lives request setup bytes text block_delete source rest old new outcome
    → (r : Option (List ℕ)) × Lives request setup bytes text block_delete input r old new outcome
from_input request setup bytes text block_delete source input rest old new outcome same lives =
    (rest, subst (λ (k : Option (List ℕ)). Lives request setup bytes text block_delete k rest old new outcome) same lives)
