-- The result of a run through a program, from its record.
use Rattle.std.proofs.Common.{◌≡◌, ◌≤◌, ℕ, suc, List, [], ◌∷◌, ◌++◌, length, Option, Some, Bool, true, false, ap, sym, subst, ◌∙◌, arith, refl}
use Rattle.std.specs.Prelude.{slice_get}
use Rattle.std.specs.Io.KnownBytes.{Appends}
use Rattle.ngc_text.specs.Written.{AppendsPrefix}
use Rattle.ngc_machine_files.specs.MachineRanges.{IsMachine}
use Rattle.ngc_commands.specs.declared.command.Command.{Command}
use Rattle.ngc_commands.specs.Sequence.{HasEnd}
use Rattle.ngc_commands.specs.Sequence.{COMMAND_LIMIT}
use Rattle.ngc_checker.specs.Accepted.{AcceptedData, IsAccepted, commands_at}
use Rattle.ngc_events.specs.declared.event.Event.{Event}
use Rattle.ngc_machine_model.specs.Headline.{job_of, RunsSafely, RunsInTime}
use Rattle.ngc_machine_model.specs.State.{Job, State, opening}
use Rattle.ngc_machine_model.specs.Step.{Outcome}
use Rattle.ngc_machine_model.specs.Run.{Run}
use Rattle.ngc_machine_model.specs.Progress.{KeepGoing}
use Rattle.ngc_controller.specs.Controller.{ControllerData}
use Rattle.ngc_run_through.specs.declared.report.Report.{Report}
use Rattle.ngc_run_through.specs.declared.recorder.Recorder.{Recorder}
use Rattle.ngc_run_through.specs.declared.trace.Trace.{Trace}
use Rattle.ngc_run_through.specs.Tracing.{last_text}
use Rattle.ngc_run_through.specs.Policy.{next_event, FollowPolicy}
use Rattle.ngc_run_through.specs.Runs.{IsRun, Reports}
use Rattle.ngc_machine_model.specs.Stretch.{last_state, Stretch}
use Rattle.ngc_run_through.specs.Forms.{IsTracedThrough, IsTracedOff}
use Rattle.ngc_run_through.specs.Stretches.{IsUntouched, GoesBy, BreaksOff, Finishes}
use Rattle.ngc_run_through.proofs.Policy.{none_is_next}
use Rattle.ngc_run_through.proofs.RunResults.{AreNew, job_begun, job_cut, job_written, reports}

-- before the first event
pub opening_untouched : (job : Job) (s : State) → IsMachine job.machine → s ≡ opening job.machine → IsUntouched job s
opening_untouched job s machine opens =
    let here : IsUntouched job (opening job.machine) = record {
      machine = machine;
      not_held = refl;
      percent = refl;
      commands = λ i l at. (cc);
      paths = tt;
      short = tt;
      travelled = omega arith;
      dwelt = omega arith;
    } in
    subst (IsUntouched job) (sym opens) here

pub opens_runs : (job : Job) (s t : State) (events : List Event) (outcomes : List Outcome) → RunsSafely job → RunsInTime job → s ≡ opening job.machine →
    (stretch : Stretch job s t events outcomes) → FollowPolicy job s events stretch.states →
    (run : IsRun job events outcomes) × (t ≡ last_state (opening job.machine) run.states) × FollowPolicy job (opening job.machine) events run.states
opens_runs job s t events outcomes safe in_time opens stretch follows =
    let R : State → Type 0 = λ x. Run job x events outcomes stretch.states in
    let K : State → Type 0 = λ x. KeepGoing job x events stretch.states in
    let F : State → Type 0 = λ x. FollowPolicy job x events stretch.states in
    let runs : Run job (opening job.machine) events outcomes stretch.states = subst R opens stretch.runs in
    let goes_on : KeepGoing job (opening job.machine) events stretch.states = subst K opens stretch.goes_on in
    let run : IsRun job events outcomes = record {
      states = stretch.states;
      runs = runs;
      is_safe = safe events outcomes stretch.states runs;
      goes_on = goes_on;
      in_time = in_time events outcomes stretch.states runs goes_on;
    } in
    (run, stretch.last ∙ ap (λ (x : State). last_state x stretch.states) opens, subst F opens follows)

-- the index of the last command
pub count_to : (before : List Command) (last : Command) → suc (length before) ≡ length (before ++ last ∷ [])
count_to [] last = refl
count_to (c ∷ before) last = ap suc (count_to before last)

pub last_at : (before : List Command) (last : Command) → slice_get (before ++ last ∷ []) (length before) ≡ Some last
last_at [] last = refl
last_at (c ∷ before) last = last_at before last

-- all is done and written
pub through_traced : (trace : Trace) (n count : ℕ) (old new : ControllerData) (a b : Recorder) (x y z : Option (List ℕ)) (report : Report) →
    AreNew trace old.job old.state a → RunsSafely old.job → RunsInTime old.job →
    HasEnd old.job.commands → count ≡ length old.job.commands → Finishes n count count old new a b x y → new.state.stopped ≡ false →
    Appends y z (b.chunk ++ last_text b.trace) →
    report ≡ b.report → IsTracedThrough trace old.job x z report
through_traced trace n count old new a b x y z report are_new safe in_time has_end all ended runs wrote same =
    let s : GoesBy n count count old new a b x y = ended.goes in
    let R : Report → Type 0 = λ r. Reports old.job s.events s.outcomes r in
    let r = opens_runs old.job old.state new.state s.events s.outcomes safe in_time are_new.opens s.stretch s.follows in
    let none : old.state.done ≡ 0 = ap (λ (x : State). x.done) are_new.opens in
    let done : new.state.done ≡ length old.job.commands = omega (arith, s.done, none, all) in
    let before : List Command = has_end.before in
    let is_count : suc (length before) ≡ length old.job.commands = count_to before has_end.last
    ∙ ap (λ (commands : List Command). length commands) (sym has_end.are) in
    record {
      events = s.events;
      outcomes = s.outcomes;
      smooth = record { run = r.0; kinds = s.kinds; follows = r.2; none_refused = s.none_refused };
      done = ap (λ (x : State). x.done) (sym r.1) ∙ done;
      ended = ap (λ (x : State). next_event old.job x) (sym r.1) ∙ none_is_next old.job new.state runs done;
      told = ended.told (omega (arith, is_count, all)) (length before) has_end.last (is_count ∙ sym done)
          (ap (λ commands. slice_get commands (length before)) has_end.are ∙ last_at before has_end.last) has_end.is_end;
      written = job_written trace old.job old.state a b x y z s.events s.outcomes are_new s.records wrote;
      reports = subst R (sym same) (reports trace old.job old.state a b s.events s.outcomes are_new s.records.counts);
    }

-- all is done, and then a write failed
pub through_unwritten : (trace : Trace) (n count : ℕ) (old new : ControllerData) (a b : Recorder) (x y z : Option (List ℕ)) → AreNew trace old.job old.state a →
    RunsSafely old.job → RunsInTime old.job →
    Finishes n count count old new a b x y → AppendsPrefix y z (b.chunk ++ last_text b.trace) → IsTracedOff trace old.job x z
through_unwritten trace n count old new a b x y z are_new safe in_time ended wrote =
    let s : GoesBy n count count old new a b x y = ended.goes in
    let r = opens_runs old.job old.state new.state s.events s.outcomes safe in_time are_new.opens s.stretch s.follows in
    record {
      given = s.events;
      outcomes = s.outcomes;
      smooth = record { run = r.0; kinds = s.kinds; follows = r.2; none_refused = s.none_refused };
      written = job_begun trace old.job old.state a b x y z s.events s.outcomes are_new s.records wrote;
    }

-- a write failed before all was done
pub through_broken : (trace : Trace) (old : ControllerData) (a : Recorder) (x z : Option (List ℕ)) → AreNew trace old.job old.state a → RunsSafely old.job →
    RunsInTime old.job → BreaksOff old a x z → IsTracedOff trace old.job x z
through_broken trace old a x z are_new safe in_time s =
    let r = opens_runs old.job old.state s.reached s.events s.outcomes safe in_time are_new.opens s.stretch s.follows in
    record {
      given = s.events;
      outcomes = s.outcomes;
      smooth = record { run = r.0; kinds = s.kinds; follows = r.2; none_refused = s.none_refused };
      written = job_cut trace old.job old.state a x z s.outcomes are_new s.begun;
    }

-- ---- for an accepted program

pub few_accepted : (a : AcceptedData) (block_delete : Bool) → IsAccepted a → length (commands_at block_delete a) ≤ COMMAND_LIMIT
few_accepted a false ok = ok.off_commands.count
few_accepted a true ok = ok.on_commands.count

pub end_of : (a : AcceptedData) (block_delete : Bool) (job : Job) → IsAccepted a → job ≡ job_of a.machine (commands_at block_delete a) → HasEnd job.commands
end_of a block_delete job ok same = subst (λ (j : Job). HasEnd j.commands) (sym same) (at block_delete) where
  at : (block_delete : Bool) → HasEnd (commands_at block_delete a)
  at false = ok.off_commands.has_end
  at true = ok.on_commands.has_end

pub machine_of : (a : AcceptedData) (block_delete : Bool) (job : Job) → IsAccepted a → job ≡ job_of a.machine (commands_at block_delete a) →
    IsMachine job.machine
machine_of a block_delete job ok same = subst (λ (j : Job). IsMachine j.machine) (sym same) ok.machine
