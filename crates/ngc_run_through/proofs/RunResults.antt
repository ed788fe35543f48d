-- The result of a run, from its record.
use Rattle.std.proofs.Common.{◌≡◌, ◌≤◌, ℕ, List, [], ◌++◌, length, take, Option, Bool, Result, Ok, Err, IfOk, OnOk, ap, sym, subst, ◌∙◌, arith}
use Rattle.std.proofs.lemmas.List.{append_assoc, append-nil, take_all}
use Rattle.std.specs.Io.KnownBytes.{Appends}
use Rattle.ngc_text.specs.Written.{AppendsPrefix}
use Rattle.ngc_fixed_length.specs.declared.points.StepPos.{StepPos}
use Rattle.ngc_text.proofs.AppendedTexts.{appends_both, begins_after}
use Rattle.ngc_events.specs.declared.event.Event.{Event}
use Rattle.ngc_events.specs.declared.event.EventLine.{EventLine}
use Rattle.ngc_checker.specs.Accepted.{AcceptedData, IsAccepted, commands_at}
use Rattle.ngc_machine_model.specs.Headline.{job_of, RunsSafely, RunsInTime}
use Rattle.ngc_machine_model.specs.State.{Job, State, opening}
use Rattle.ngc_machine_model.specs.Step.{Outcome}
use Rattle.ngc_machine_model.specs.Run.{Run, events_of, positions}
use Rattle.ngc_machine_model.specs.Progress.{KeepGoing}
use Rattle.ngc_machine_model.proofs.Headline.{accepted_runs_safely}
use Rattle.ngc_machine_model.proofs.EndsInTime.{machines_run_in_time}
use Rattle.ngc_run_through.specs.declared.report.Report.{Report}
use Rattle.ngc_run_through.specs.declared.recorder.Recorder.{Recorder}
use Rattle.ngc_run_through.specs.declared.trace.Trace.{Trace}
use Rattle.ngc_run_through.specs.Tracing.{opening_text, trace_text, trace_after, ticks_of, last_text, whole_text}
use Rattle.ngc_run_through.specs.Forms.{IsTracedRun, IsUntracedRun}
use Rattle.ngc_run_through.specs.Runs.{IsRun, Reports}
use Rattle.ngc_run_through.specs.Counting.{counted, counted_of, last_position}
use Rattle.ngc_motors.specs.Counts.{MotorData}
use Rattle.ngc_machine_files.specs.Machine.{motors_of}
use Rattle.ngc_machine_model.specs.Stretch.{Stretch}
use Rattle.ngc_run_through.specs.Recording.{Counts, HasFew, Records, IsRecorded, IsCutShort, next_text, told_by}

-- no event was processed yet: the machine is in this state, and the recorder is new
pub record AreNew (first : Trace) (job : Job) (state : State) (recorder : Recorder) : Type 0 where
  pub opens : state ≡ opening job.machine
  pub report : recorder.report ≡ record { ticks = 0; path_steps = 0; refused = 0; position = state.position }
  pub motors : recorder.motors ≡ motors_of job.machine
  pub trace : recorder.trace ≡ first
  pub begins : ticks_of first ≡ 0
  pub chunk : recorder.chunk ≡ opening_text first

pub new_recorder : (trace : Trace) (job : Job) (state : State) (a : Recorder) (position : StepPos) → state ≡ opening job.machine → position ≡ state.position
    → a.report ≡ record { ticks = 0; path_steps = 0; refused = 0; position = position } → a.motors ≡ motors_of job.machine → a.trace ≡ trace → ticks_of trace ≡ 0 → a.chunk ≡ opening_text trace →
    AreNew trace job state a
new_recorder trace job state a position opens stands report motors same begins chunk = record {
  opens = opens;
  report = report ∙ ap (λ (p : StepPos). record { ticks = 0; path_steps = 0; refused = 0; position = p }) stands;
  motors = motors;
  trace = same;
  begins = begins;
  chunk = chunk;
}

pub none_counted : (trace : Trace) (job : Job) (state : State) (a : Recorder) (n : ℕ) → AreNew trace job state a → HasFew n a
none_counted trace job state a n new = record {
  report = record {
    ticks = omega (arith, ap (λ (r : Report). r.ticks) new.report);
    path_steps = omega (arith, ap (λ (r : Report). r.path_steps) new.report);
    refused = omega (arith, ap (λ (r : Report). r.refused) new.report);
  };
  ticks = omega (arith, ap ticks_of new.trace, new.begins);
}

is_run : (job : Job) (s t : State) (events : List Event) (outcomes : List Outcome) → RunsSafely job → RunsInTime job → s ≡ opening job.machine →
    Stretch job s t events outcomes → IsRun job events outcomes
is_run job s t events outcomes safe in_time opens stretch =
    let R : State → Type 0 = λ x. Run job x events outcomes stretch.states in
    let K : State → Type 0 = λ x. KeepGoing job x events stretch.states in
    let runs : Run job (opening job.machine) events outcomes stretch.states = subst R opens stretch.runs in
    let goes_on : KeepGoing job (opening job.machine) events stretch.states = subst K opens stretch.goes_on in
    record {
      states = stretch.states;
      runs = runs;
      is_safe = safe events outcomes stretch.states runs;
      goes_on = goes_on;
      in_time = in_time events outcomes stretch.states runs goes_on;
    }

pub reports : (trace : Trace) (job : Job) (s : State) (a b : Recorder) (events : List Event) (outcomes : List Outcome) → AreNew trace job s a →
    Counts events outcomes a.report b.report → Reports job events outcomes b.report
reports trace job s a b events outcomes new counts =
    let place : a.report.position ≡ (opening job.machine).position = ap (λ (r : Report). r.position) new.report ∙ ap (λ (x : State). x.position) new.opens in
    record {
      ticks = omega (arith, counts.ticks, ap (λ (r : Report). r.ticks) new.report);
      path_steps = omega (arith, counts.path_steps, ap (λ (r : Report). r.path_steps) new.report);
      refused = omega (arith, counts.refused, ap (λ (r : Report). r.refused) new.report);
      position = counts.position ∙ ap (λ p. last_position p (positions outcomes)) place;
    }

-- its text begins with the job's
pub first_told : (trace : Trace) (job : Job) (s : State) (a : Recorder) (outcomes : List Outcome) → AreNew trace job s a →
    told_by a outcomes ≡ counted_of job outcomes
first_told trace job s a outcomes new =
    let M : MotorData → List Outcome = λ m. counted m a.report.position outcomes in
    let P : StepPos → List Outcome = λ p. counted (motors_of job.machine) p outcomes in
    let place : a.report.position ≡ (opening job.machine).position = ap (λ (r : Report). r.position) new.report ∙ ap (λ (x : State). x.position) new.opens in
    ap M new.motors ∙ ap P place

-- what was written and what is still collected is the text before the last
text_is : (trace : Trace) (a b : Recorder) (x y : Option (List ℕ)) (events : List Event) (outcomes : List Outcome) →
    a.trace ≡ trace → a.chunk ≡ opening_text trace → (r : Records events outcomes a b x y) →
    r.collects.front ++ (b.chunk ++ last_text b.trace) ≡ whole_text trace (told_by a outcomes)
text_is trace a b x y events outcomes same opened r =
    let told : List Outcome = told_by a outcomes in
    let after : b.trace ≡ trace_after trace told = r.trace ∙ ap (λ t. trace_after t told) same in
    let whole : a.chunk ++ trace_text a.trace told ≡ opening_text trace ++ trace_text trace told =
    ap (λ l. l ++ trace_text a.trace told) opened ∙ ap (λ t. opening_text trace ++ trace_text t told) same in
    sym (append_assoc r.collects.front b.chunk (last_text b.trace))
    ∙ ap (λ l. l ++ last_text b.trace) (sym r.collects.splits ∙ whole)
    ∙ ap (λ t. (opening_text trace ++ trace_text trace told) ++ last_text t) after
    ∙ append_assoc (opening_text trace) (trace_text trace told) (last_text (trace_after trace told))

-- all was written, and the last text
pub all_written : (trace : Trace) (a b : Recorder) (x y z : Option (List ℕ)) (events : List Event) (outcomes : List Outcome) →
    a.trace ≡ trace → a.chunk ≡ opening_text trace → Records events outcomes a b x y →
    Appends y z (b.chunk ++ last_text b.trace) → Appends x z (whole_text trace (told_by a outcomes))
all_written trace a b x y z events outcomes same opened r wrote =
    let P : List ℕ → Type 0 = λ text. Appends x z text in
    subst P (text_is trace a b x y events outcomes same opened r) (appends_both x y z r.collects.front (b.chunk ++ last_text b.trace) r.collects.writes wrote)

-- then a write failed
pub all_begun : (trace : Trace) (a b : Recorder) (x y z : Option (List ℕ)) (events : List Event) (outcomes : List Outcome) →
    a.trace ≡ trace → a.chunk ≡ opening_text trace → Records events outcomes a b x y →
    AppendsPrefix y z (b.chunk ++ last_text b.trace) → AppendsPrefix x z (whole_text trace (told_by a outcomes))
all_begun trace a b x y z events outcomes same opened r wrote =
    let P : List ℕ → Type 0 = λ text. AppendsPrefix x z text in
    let rest : List ℕ = b.chunk ++ last_text b.trace in
    let text : r.collects.front ++ (rest ++ []) ≡ whole_text trace (told_by a outcomes) =
    ap (λ l. r.collects.front ++ l) (append-nil rest) ∙ text_is trace a b x y events outcomes same opened r in
    subst P text (begins_after x y z r.collects.front rest [] r.collects.writes wrote)

-- a write failed before the last text was added
pub some_begun : (trace : Trace) (a : Recorder) (x z : Option (List ℕ)) (outcomes : List Outcome) → a.trace ≡ trace → a.chunk ≡ opening_text trace →
    AppendsPrefix x z (a.chunk ++ next_text a outcomes) → AppendsPrefix x z (whole_text trace (told_by a outcomes))
some_begun trace a x z outcomes same opened wrote =
    let told : List Outcome = told_by a outcomes in
    let end : List ℕ = last_text (trace_after trace told) in
    let whole : a.chunk ++ trace_text a.trace told ≡ opening_text trace ++ trace_text trace told =
    ap (λ l. l ++ trace_text a.trace told) opened ∙ ap (λ t. opening_text trace ++ trace_text t told) same in (
      wrote.0,
      wrote.1 ++ end,
      sym (append_assoc (opening_text trace) (trace_text trace told) end) ∙ ap (λ l. l ++ end) (sym whole ∙ wrote.2) ∙ append_assoc wrote.0 wrote.1 end,
      wrote.3,
    )

-- the same for the job's own text
pub job_written : (trace : Trace) (job : Job) (s : State) (a b : Recorder) (x y z : Option (List ℕ)) (events : List Event) (outcomes : List Outcome) →
    AreNew trace job s a → Records events outcomes a b x y → Appends y z (b.chunk ++ last_text b.trace) → Appends x z (whole_text trace (counted_of job outcomes))
job_written trace job s a b x y z events outcomes new r wrote =
    subst (λ os. Appends x z (whole_text trace os)) (first_told trace job s a outcomes new)
    (all_written trace a b x y z events outcomes new.trace new.chunk r wrote)

pub job_begun : (trace : Trace) (job : Job) (s : State) (a b : Recorder) (x y z : Option (List ℕ)) (events : List Event) (outcomes : List Outcome) →
    AreNew trace job s a → Records events outcomes a b x y → AppendsPrefix y z (b.chunk ++ last_text b.trace) →
    AppendsPrefix x z (whole_text trace (counted_of job outcomes))
job_begun trace job s a b x y z events outcomes new r wrote =
    subst (λ os. AppendsPrefix x z (whole_text trace os)) (first_told trace job s a outcomes new)
    (all_begun trace a b x y z events outcomes new.trace new.chunk r wrote)

pub job_cut : (trace : Trace) (job : Job) (s : State) (a : Recorder) (x z : Option (List ℕ)) (outcomes : List Outcome) → AreNew trace job s a →
    AppendsPrefix x z (a.chunk ++ next_text a outcomes) → AppendsPrefix x z (whole_text trace (counted_of job outcomes))
job_cut trace job s a x z outcomes new wrote =
    subst (λ os. AppendsPrefix x z (whole_text trace os)) (first_told trace job s a outcomes new)
    (some_begun trace a x z outcomes new.trace new.chunk wrote)

all_taken : (lines : List EventLine) (i : ℕ) → length lines ≤ i → events_of (take i lines) ≡ events_of lines
all_taken lines i h = ap events_of (take_all i lines h)

-- all is written
pub run_traced : (trace : Trace) (job : Job) (s t : State) (a b : Recorder) (x y z : Option (List ℕ)) (lines : List EventLine) (i : ℕ) (report : Report) →
    AreNew trace job s a → RunsSafely job → RunsInTime job → length lines ≤ i
    → IsRecorded job s t a b x y (events_of (take i lines)) → Appends y z (b.chunk ++ last_text b.trace) → report ≡ b.report →
    IsTracedRun trace job lines x z report
run_traced trace job s t a b x y z lines i report new safe in_time h done wrote same =
    let E : List Event → Type 0 = λ es. IsRecorded job s t a b x y es in
    let whole : IsRecorded job s t a b x y (events_of lines) = subst E (all_taken lines i h) done in
    let R : Report → Type 0 = λ r. Reports job (events_of lines) whole.outcomes r in
    record {
      outcomes = whole.outcomes;
      run = is_run job s t (events_of lines) whole.outcomes safe in_time new.opens whole.stretch;
      written = job_written trace job s a b x y z (events_of lines) whole.outcomes new whole.records wrote;
      reports = subst R (sym same) (reports trace job s a b (events_of lines) whole.outcomes new whole.records.counts);
    }

-- two facts about a result
pub if_ok_both : {T E : Type 0} (P R : T → Type 0) {Q : Type 0} (r : Result T E) → IfOk r P → OnOk r Q → ((x : T) → P x → Q → R x) → IfOk r R
if_ok_both P R (Ok x) p q f = f x p q
if_ok_both P R (Err e) p q f = tt

-- all events were processed, and then a write failed
pub run_untraced : (trace : Trace) (job : Job) (s t : State) (a b : Recorder) (x y z : Option (List ℕ)) (lines : List EventLine) (i : ℕ) →
    AreNew trace job s a → RunsSafely job → RunsInTime job → length lines ≤ i
    → IsRecorded job s t a b x y (events_of (take i lines)) → AppendsPrefix y z (b.chunk ++ last_text b.trace) → IsUntracedRun trace job lines x z
run_untraced trace job s t a b x y z lines i new safe in_time h done wrote =
    let E : List Event → Type 0 = λ es. IsRecorded job s t a b x y es in
    let whole : IsRecorded job s t a b x y (events_of lines) = subst E (all_taken lines i h) done in
    record {
      given = events_of lines;
      left = [];
      are_first = sym (append-nil (events_of lines));
      outcomes = whole.outcomes;
      run = is_run job s t (events_of lines) whole.outcomes safe in_time new.opens whole.stretch;
      written = job_begun trace job s a b x y z (events_of lines) whole.outcomes new whole.records wrote;
    }

-- a write failed before all events were processed
pub run_cut : (trace : Trace) (job : Job) (s : State) (a : Recorder) (x z : Option (List ℕ)) (lines : List EventLine) → AreNew trace job s a → RunsSafely job →
    RunsInTime job → IsCutShort job s a x z (events_of lines) →
    IsUntracedRun trace job lines x z
run_cut trace job s a x z lines new safe in_time cut = record {
  given = cut.given;
  left = cut.left;
  are_first = cut.are_first;
  outcomes = cut.outcomes;
  run = is_run job s cut.reached cut.given cut.outcomes safe in_time new.opens cut.stretch;
  written = job_cut trace job s a x z cut.outcomes new cut.begun;
}

pub safe_of : (a : AcceptedData) (block_delete : Bool) (job : Job) → IsAccepted a → job ≡ job_of a.machine (commands_at block_delete a) → RunsSafely job
safe_of a block_delete job ok same = subst RunsSafely (sym same) (accepted_runs_safely a ok block_delete)

pub in_time_of : (a : AcceptedData) (block_delete : Bool) (job : Job) → IsAccepted a → job ≡ job_of a.machine (commands_at block_delete a) → RunsInTime job
in_time_of a block_delete job ok same = subst RunsInTime (sym same) (machines_run_in_time (job_of a.machine (commands_at block_delete a)) ok.machine)

pub opens_of : (a : AcceptedData) (block_delete : Bool) (job : Job) (state : State) → job ≡ job_of a.machine (commands_at block_delete a) →
    state ≡ opening a.machine → state ≡ opening job.machine
opens_of a block_delete job state same opens = opens ∙ ap (λ (j : Job). opening j.machine) (sym same)
