-- A run that continues from piece to piece of its events' text.
use Rattle.std.proofs.Common.{◌≡◌, ◌++◌, [], ◌∷◌, ℕ, List, replicate, Option, Bool, true, false, refl, ap, ap₂, subst, sym, ◌∙◌, arith}
use Rattle.std.proofs.lemmas.List.{append_assoc, append-nil}
use Rattle.std.proofs.lemmas.Grind.{flat_map-append}
use Rattle.std.proofs.KnownBytes.{Appends-nil}
use Rattle.std.specs.Io.KnownBytes.{Appends}
use Rattle.ngc_text.specs.Written.{AppendsPrefix}
use Rattle.ngc_text.proofs.AppendedTexts.{appends_both, begins_after}
use Rattle.ngc_fixed_length.specs.declared.points.StepPos.{StepPos}
use Rattle.ngc_checker.specs.Accepted.{AcceptedData, IsAccepted, commands_at}
use Rattle.ngc_commands.specs.Movement.{actions_of, ways_of, AreJoined}
use Rattle.ngc_commands.specs.declared.command.Command.{Command}
use Rattle.ngc_machine_files.specs.MachineRanges.{IsMachine}
use Rattle.ngc_events.specs.Arriving.{Arriving, HaveArrived}
use Rattle.ngc_events.specs.declared.event.Event.{Event}
use Rattle.ngc_events.specs.declared.event.EventLine.{EventLine}
use Rattle.ngc_machine_model.specs.Headline.{job_of, RunsInTime, RunsSafely}
use Rattle.ngc_machine_model.specs.State.{Job, State, opening}
use Rattle.ngc_machine_model.specs.Step.{Outcome}
use Rattle.ngc_machine_model.specs.Run.{Run, events_of, positions}
use Rattle.ngc_machine_model.specs.Safety.{start_of_job}
use Rattle.ngc_machine_model.specs.Stretch.{Stretch}
use Rattle.ngc_pulses.specs.declared.samples.Switch.{Switch}
use Rattle.ngc_pulses.specs.Sampling.{SampleState, SampleTick, after_samples, first_samples, rest_bytes, samples_text, settled}
use Rattle.ngc_pulses.proofs.SampleLaws.{after_samples-append, after_settled, samples_text-append, whole_settled}
use Rattle.ngc_run_log.specs.declared.live_form.LiveForm.{LiveForm}
use Rattle.ngc_run_log.specs.declared.live_form.LiveForm.TheVariants as live
use Rattle.ngc_run_through.specs.declared.recorder.Recorder.{Recorder}
use Rattle.ngc_run_through.specs.declared.report.Report.{Report}
use Rattle.ngc_run_through.specs.declared.switches.Switches.{Switches}
use Rattle.ngc_run_through.specs.declared.trace.Trace.{Trace}
use Rattle.ngc_run_through.specs.Forms.{text_as}
use Rattle.ngc_run_through.specs.declared.text_state.TextState.{TextState}
use Rattle.ngc_run_through.specs.declared.text_state.TextState.TheVariants as texts
use Rattle.ngc_run_through.specs.Pauses.{paused_at, trace_from}
use Rattle.ngc_run_log.specs.Living.{form_of, first_paused, paused, LiveData, IsReady, HasRun, IsCutRun, IsLive}
use Rattle.ngc_run_through.specs.Log.{log, text_of}
use Rattle.ngc_run_through.specs.Times.{ticks_after, timed_log}
use Rattle.ngc_run_through.proofs.Timed.{ticks_after-append, timed_log-append}
use Rattle.ngc_run_log.specs.Feeding.{AreBegun, AreSent, IsFed, IsFedShort, Processes}
use Rattle.ngc_run_through.specs.Recording.{HasFew, told_by}
use Rattle.ngc_run_through.specs.Runs.{IsRun}
use Rattle.ngc_run_through.specs.Switching.{AreSwitches}
use Rattle.ngc_run_through.specs.Tracing.{last_text, opening_text, sample_in, samples_in, ticks_of, trace_after, trace_of, whole_text}
use Rattle.ngc_run_through.proofs.RunResults.{all_begun, all_written, in_time_of, opens_of, safe_of, some_begun}
use Rattle.ngc_run_through.proofs.ResultForms.{are_switches, IsTraceOf, start_counts, text_of_run}
use Rattle.ngc_run_through.proofs.Counted.{counted-append}
use Rattle.ngc_run_through.proofs.CommandedPulses.{run_ends}
use Rattle.ngc_run_through.specs.Counting.{counted, counted_of, last_position}
use Rattle.ngc_motors.specs.Counts.{MotorData, counts}
use Rattle.ngc_machine_files.specs.Machine.{motors_of}
use Rattle.ngc_run_log.proofs.FeedingLaws.{begun_joined, begun_all, given_joined}
use Rattle.ngc_run_through.proofs.RunParts.{stretches_joined}

-- ---- the trace that continues

pub opens_empty : (o : TextState) (s : Switches) → opening_text (trace_from o s) ≡ []
opens_empty texts.Log s = refl
opens_empty (texts.Times ticks) s = refl
opens_empty (texts.Samples d) s = refl

pub none_ticked_yet : (o : TextState) (s : Switches) → ticks_of (trace_from o s) ≡ 0
none_ticked_yet texts.Log s = refl
none_ticked_yet (texts.Times ticks) s = refl
none_ticked_yet (texts.Samples d) s = refl

-- nothing is counted yet
pub none_counted_yet : (a : Recorder) (o : TextState) (s : Switches) (position : StepPos) →
    a.report ≡ record { ticks = 0; path_steps = 0; refused = 0; position = position } → a.trace ≡ trace_from o s → HasFew 0 a
none_counted_yet a o s position report same = record {
  report = record {
    ticks = omega (arith, ap (λ (r : Report). r.ticks) report);
    path_steps = omega (arith, ap (λ (r : Report). r.path_steps) report);
    refused = omega (arith, ap (λ (r : Report). r.refused) report);
  };
  ticks = omega (arith, ap ticks_of same, none_ticked_yet o s);
}

-- ---- the text of more outcomes

more_text : (form : LiveForm) (rate : ℕ) (start : StepPos) (s : Switches) (os ps : List Outcome) →
    whole_text (trace_of (form_of form) rate start s) (os ++ ps)
    ≡ whole_text (trace_of (form_of form) rate start s) os ++ whole_text (trace_from (paused form start s.list.now os) s) ps
more_text live.Log rate start s os ps =
    append-nil (log (os ++ ps)) ∙ flat_map-append text_of os ps ∙ ap₂ (λ a b. a ++ b) (sym (append-nil (log os))) (sym (append-nil (log ps)))
more_text live.Times rate start s os ps =
    append-nil (timed_log 0 (os ++ ps)) ∙ timed_log-append 0 os ps
    ∙ ap₂ (λ a b. a ++ b) (sym (append-nil (timed_log 0 os))) (sym (append-nil (timed_log (ticks_after 0 os) ps)))
more_text (live.Samples inverted) rate start s os ps =
    let list : List Switch = s.list.now in
    let first : SampleState = first_samples inverted start in
    let xs : List SampleTick = samples_in list os in
    let ys : List SampleTick = samples_in list ps in
    let mid : SampleState = after_samples first xs in
    ap (λ ts. samples_text first ts ++ rest_bytes (after_samples first ts)) (flat_map-append (sample_in list) os ps)
    ∙ ap₂ (λ a d. a ++ rest_bytes d) (samples_text-append first xs ys) (after_samples-append first xs ys)
    ∙ append_assoc (samples_text first xs) (samples_text mid ys) (rest_bytes (after_samples mid ys))
    ∙ ap (λ t. samples_text first xs ++ t) (whole_settled mid ys)
    ∙ sym (append_assoc (samples_text first xs) (rest_bytes mid) (samples_text (settled mid) ys ++ rest_bytes (after_samples (settled mid) ys)))

more_paused : (form : LiveForm) (start : StepPos) (s : Switches) (os ps : List Outcome) →
    paused_at (trace_after (trace_from (paused form start s.list.now os) s) ps) ≡ paused form start s.list.now (os ++ ps)
more_paused live.Log start s os ps = refl
more_paused live.Times start s os ps = ap texts.Times (sym (ticks_after-append 0 os ps))
more_paused (live.Samples inverted) start s os ps =
    let list : List Switch = s.list.now in
    let first : SampleState = first_samples inverted start in
    let xs : List SampleTick = samples_in list os in
    let ys : List SampleTick = samples_in list ps in
    ap texts.Samples
    (after_settled (after_samples first xs) ys
    ∙ sym (ap settled (ap (after_samples first) (flat_map-append (sample_in list) os ps) ∙ after_samples-append first xs ys)))

-- ---- the run so far, and more of it

-- the trace with which the job began, with what its commands switch as it is borrowed now
abbrev began : LiveForm → Job → Switches → Trace
began form job s = trace_of (form_of form) job.machine.ticks_per_second (start_counts job) s

is_began : (form : LiveForm) (job : Job) (list : List Switch) (s : Switches) → IsReady form job list → s.list.now ≡ list →
    IsTraceOf (form_of form) job (began form job s)
is_began form job list s ready same = record {
  machine = ready.machine;
  joined = ready.joined;
  list = s;
  are = subst (AreSwitches (form_of form) job.commands) (sym same) ready.are;
  is = refl;
}

-- and the trace that continues after outcomes
abbrev pub afterwards : LiveForm → LiveData → Switches → List Outcome → Trace
afterwards form live s outcomes = trace_from (paused form (start_counts live.job) s.list.now (counted_of live.job outcomes)) s

goes_on : (form : LiveForm) (live : LiveData) (lines : List EventLine) (first x : Option (List ℕ)) (s : Switches) (h : HasRun form live lines first x) →
    s.list.now ≡ live.switches → trace_from live.paused s ≡ afterwards form live s h.outcomes
goes_on form live lines first x s h same =
    ap (λ o. trace_from o s) (h.paused ∙ ap (λ l. paused form (start_counts live.job) l (counted_of live.job h.outcomes)) (sym same))

wrote_before : (form : LiveForm) (live : LiveData) (lines : List EventLine) (first x : Option (List ℕ)) (s : Switches) (h : HasRun form live lines first x) →
    s.list.now ≡ live.switches → Appends first x (whole_text (began form live.job s) (counted_of live.job h.outcomes))
wrote_before form live lines first x s h same =
    subst (Appends first x)
    (sym (text_of_run (form_of form) live.job (began form live.job s) h.given h.outcomes h.run.states
    (is_began form live.job live.switches s h.ready same) h.run.runs)) h.written

abbrev run_over : (job : Job) (t : State) (events : List Event) (outcomes : List Outcome) → RunsSafely job → RunsInTime job →
    Stretch job (opening job.machine) t events outcomes → IsRun job events outcomes
run_over job t events outcomes safe in_time stretch = record {
  states = stretch.states;
  runs = stretch.runs;
  is_safe = safe events outcomes stretch.states stretch.runs;
  goes_on = stretch.goes_on;
  in_time = in_time events outcomes stretch.states stretch.runs stretch.goes_on;
}

abbrev stretch_of : (form : LiveForm) (live : LiveData) (lines : List EventLine) (first x : Option (List ℕ)) → (h : HasRun form live lines first x) →
    Stretch live.job (opening live.job.machine) live.state h.given h.outcomes
stretch_of form live lines first x h = record { states = h.run.states; runs = h.run.runs; goes_on = h.run.goes_on; last = h.reached }

events_both : (xs ys : List EventLine) → events_of (xs ++ ys) ≡ events_of xs ++ events_of ys
events_both xs ys = flat_map-append _ xs ys

-- a new recorder is for the run's motors, where the machine is now
pub record IsHere (a : Recorder) (live : LiveData) : Type 0 where
  pub motors : a.motors ≡ motors_of live.job.machine
  pub place : a.report.position ≡ live.state.position

-- so its text continues that of the run
told_on : (form : LiveForm) (live : LiveData) (lines : List EventLine) (first x : Option (List ℕ)) (a : Recorder) (ps : List Outcome) →
    (h : HasRun form live lines first x) → IsHere a live →
    counted_of live.job (h.outcomes ++ ps) ≡ counted_of live.job h.outcomes ++ told_by a ps
told_on form live lines first x a ps h here =
    let m : MotorData = motors_of live.job.machine in
    let start : StepPos = start_of_job live.job in
    let M : MotorData → List Outcome = λ k. counted k a.report.position ps in
    let P : StepPos → List Outcome = λ q. counted m q ps in
    let ends = run_ends live.job h.given h.outcomes h.run.states h.ready.machine h.ready.joined h.run.runs in
    let at : a.report.position ≡ last_position start (positions h.outcomes) = here.place ∙ ap (λ (k : State). k.position) h.reached ∙ sym ends in
    counted-append m start h.outcomes ps ∙ ap (λ l. counted_of live.job h.outcomes ++ l) (sym (ap M here.motors ∙ ap P at))

-- the text of the run with more outcomes
text_with : (form : LiveForm) (live : LiveData) (lines : List EventLine) (first x : Option (List ℕ)) (s : Switches) (h : HasRun form live lines first x)
    (events : List Event) (ps told : List Outcome) (states : List State) → s.list.now ≡ live.switches →
    counted_of live.job (h.outcomes ++ ps) ≡ counted_of live.job h.outcomes ++ told →
    Run live.job (opening live.job.machine) events (h.outcomes ++ ps) states →
    whole_text (began form live.job s) (counted_of live.job h.outcomes) ++ whole_text (afterwards form live s h.outcomes) told
    ≡ text_as (form_of form) live.job events (h.outcomes ++ ps) states
text_with form live lines first x s h events ps told states same more runs =
    sym (more_text form live.job.machine.ticks_per_second (start_counts live.job) s (counted_of live.job h.outcomes) told)
    ∙ ap (whole_text (began form live.job s)) (sym more)
    ∙ text_of_run (form_of form) live.job (began form live.job s) events (h.outcomes ++ ps) states
    (is_began form live.job live.switches s h.ready same) runs

-- all is written
runs_on : (form : LiveForm) (live : LiveData) (t : State) (arriving : Arriving) (o : TextState) (lines more : List EventLine)
    (first x y z : Option (List ℕ)) (s : Switches) (a b : Recorder) → HasRun form live lines first x → IsHere a live →
    s.list.now ≡ live.switches → a.trace ≡ trace_from live.paused s → a.chunk ≡ opening_text (trace_from live.paused s) →
    IsFed live.feeds live.job live.state t a b x y (events_of more) → Appends y z (b.chunk ++ last_text b.trace) → o ≡ paused_at b.trace →
    HasRun form (record { job = live.job; state = t; arriving = arriving; switches = live.switches; paused = o; feeds = live.feeds }) (lines ++ more) first z
runs_on form live t arriving o lines more first x y z s a b h here same trace chunk done wrote settles =
    let job : Job = live.job in
    let os : List Outcome = h.outcomes in
    let ps : List Outcome = done.outcomes in
    let given : List Event = h.given ++ done.given in
    let stretch : Stretch job (opening job.machine) t given (os ++ ps) =
    stretches_joined job (opening job.machine) live.state t h.given done.given os ps (stretch_of form live lines first x h) done.stretch in
    let G : State → Type 0 = λ k. AreSent live.feeds job k (events_of more) done.given done.stretch.states in
    let E : List Event → Type 0 = λ es. AreSent live.feeds job (opening job.machine) es given (h.run.states ++ done.stretch.states) in
    let on : trace_from live.paused s ≡ afterwards form live s os = goes_on form live lines first x s h same in
    let told : List Outcome = told_by a ps in
    let begins : List Outcome = counted_of job os in
    let more_told = told_on form live lines first x a ps h here in
    let now : Appends x z (whole_text (afterwards form live s os) told) =
    all_written (afterwards form live s os) a b x y z done.given ps (trace ∙ on) (chunk ∙ ap opening_text on) done.records wrote in
    record {
      given = given;
      outcomes = os ++ ps;
      run = run_over job t given (os ++ ps) h.ready.safe h.ready.in_time stretch;
      are_sent =
          subst E (sym (events_both lines more))
          (given_joined live.feeds job (opening job.machine) (events_of lines) (events_of more) h.given done.given h.run.states done.stretch.states
          h.are_sent (subst G h.reached done.are_sent));
      written =
          subst (Appends first z) (text_with form live lines first x s h given ps told stretch.states same more_told stretch.runs)
          (appends_both first x z (whole_text (began form job s) begins) (whole_text (afterwards form live s os) told) (wrote_before form live lines first x s h same) now);
      reached = stretch.last;
      ready = h.ready;
      paused =
          settles ∙ ap paused_at (done.records.trace ∙ ap (λ (k : Trace). trace_after k told) (trace ∙ on))
          ∙ more_paused form (start_counts job) s begins told ∙ ap (paused form (start_counts job) s.list.now) (sym more_told)
          ∙ ap (λ l. paused form (start_counts job) l (counted_of job (os ++ ps))) same;
    }

-- of a run whose parts are the same
same_parts : (form : LiveForm) (live new : LiveData) (lines : List EventLine) (first z : Option (List ℕ)) → new.job ≡ live.job → new.switches ≡ live.switches →
    new.feeds ≡ live.feeds →
    HasRun form (record { job = live.job; state = new.state; arriving = new.arriving; switches = live.switches; paused = new.paused; feeds = live.feeds }) lines first z →
    HasRun form new lines first z
same_parts form live new lines first z job switches feeds h =
    let J : Job → Type 0 = λ j.
    HasRun form (record { job = j; state = new.state; arriving = new.arriving; switches = live.switches; paused = new.paused; feeds = live.feeds }) lines first z in
    let L : List Switch → Type 0 = λ l.
    HasRun form (record { job = new.job; state = new.state; arriving = new.arriving; switches = l; paused = new.paused; feeds = live.feeds }) lines first z in
    let F : Bool → Type 0 = λ b.
    HasRun form (record { job = new.job; state = new.state; arriving = new.arriving; switches = new.switches; paused = new.paused; feeds = b }) lines first z in
    subst F (sym feeds) (subst L (sym switches) (subst J (sym job) h))

pub has_run : (form : LiveForm) (live new : LiveData) (lines more : List EventLine)
    (first x y z : Option (List ℕ)) (s : Switches) (a b : Recorder) → HasRun form live lines first x → IsHere a live →
    s.list.now ≡ live.switches → a.trace ≡ trace_from live.paused s → a.chunk ≡ opening_text (trace_from live.paused s) →
    IsFed live.feeds live.job live.state new.state a b x y (events_of more) → Appends y z (b.chunk ++ last_text b.trace) →
    new.job ≡ live.job → new.switches ≡ live.switches → new.feeds ≡ live.feeds → new.paused ≡ paused_at b.trace →
    HasRun form new (lines ++ more) first z
has_run form live new lines more first x y z s a b h here same trace chunk done wrote job switches feeds settles =
    same_parts form live new (lines ++ more) first z job switches feeds
    (runs_on form live new.state new.arriving new.paused lines more first x y z s a b h here same trace chunk done wrote settles)

-- ---- a write failed

breaks : (form : LiveForm) (live : LiveData) (t : State) (lines more : List EventLine) (first x z : Option (List ℕ)) (s : Switches)
    (given : List Event) (ps told : List Outcome) → (h : HasRun form live lines first x) → s.list.now ≡ live.switches →
    counted_of live.job (h.outcomes ++ ps) ≡ counted_of live.job h.outcomes ++ told →
    (stretch : Stretch live.job live.state t given ps) →
    AreBegun live.feeds live.job live.state (events_of more) given stretch.states →
    AppendsPrefix x z (whole_text (afterwards form live s h.outcomes) told) → IsCutRun form live.feeds live.job (lines ++ more) first z
breaks form live t lines more first x z s given ps told h same more_told stretch are wrote =
    let job : Job = live.job in
    let os : List Outcome = h.outcomes in
    let whole : Stretch job (opening job.machine) t (h.given ++ given) (os ++ ps) =
    stretches_joined job (opening job.machine) live.state t h.given given os ps (stretch_of form live lines first x h) stretch in
    let G : State → Type 0 = λ k. AreBegun live.feeds job k (events_of more) given stretch.states in
    let E : List Event → Type 0 = λ es. AreBegun live.feeds job (opening job.machine) es (h.given ++ given) (h.run.states ++ stretch.states) in
    let old : List ℕ = whole_text (began form job s) (counted_of job os) in
    let now : List ℕ = whole_text (afterwards form live s os) told in
    let P : List ℕ → Type 0 = λ l. AppendsPrefix first z l in
    record {
      given = h.given ++ given;
      outcomes = os ++ ps;
      run = run_over job t (h.given ++ given) (os ++ ps) h.ready.safe h.ready.in_time whole;
      are_begun =
          subst E (sym (events_both lines more))
          (begun_joined live.feeds job (opening job.machine) (events_of lines) (events_of more) h.given given h.run.states stretch.states
          h.are_sent (subst G h.reached are));
      written =
          subst P (ap (λ l. old ++ l) (append-nil now) ∙ text_with form live lines first x s h (h.given ++ given) ps told whole.states same more_told whole.runs)
          (begins_after first x z old now [] (wrote_before form live lines first x s h same) wrote);
    }

-- before all events of a line were processed
pub cut_within : (form : LiveForm) (live : LiveData) (lines more : List EventLine) (first x z : Option (List ℕ)) (s : Switches)
    (a : Recorder) → HasRun form live lines first x → IsHere a live → s.list.now ≡ live.switches → a.trace ≡ trace_from live.paused s →
    a.chunk ≡ opening_text (trace_from live.paused s) → IsFedShort live.feeds live.job live.state a x z (events_of more) →
    IsCutRun form live.feeds live.job (lines ++ more) first z
cut_within form live lines more first x z s a h here same trace chunk cut =
    let on : trace_from live.paused s ≡ afterwards form live s h.outcomes = goes_on form live lines first x s h same in
    breaks form live cut.reached lines more first x z s cut.given cut.outcomes (told_by a cut.outcomes) h same
    (told_on form live lines first x a cut.outcomes h here) cut.stretch cut.are_begun
    (some_begun (afterwards form live s h.outcomes) a x z cut.outcomes (trace ∙ on) (chunk ∙ ap opening_text on) cut.begun)

-- and after it
pub cut_behind : (form : LiveForm) (live : LiveData) (t : State) (lines more : List EventLine) (first x y z : Option (List ℕ))
    (s : Switches) (a b : Recorder) → HasRun form live lines first x → IsHere a live → s.list.now ≡ live.switches → a.trace ≡ trace_from live.paused s →
    a.chunk ≡ opening_text (trace_from live.paused s) → IsFed live.feeds live.job live.state t a b x y (events_of more) →
    AppendsPrefix y z (b.chunk ++ last_text b.trace) → IsCutRun form live.feeds live.job (lines ++ more) first z
cut_behind form live t lines more first x y z s a b h here same trace chunk done wrote =
    let on : trace_from live.paused s ≡ afterwards form live s h.outcomes = goes_on form live lines first x s h same in
    breaks form live t lines more first x z s done.given done.outcomes (told_by a done.outcomes) h same
    (told_on form live lines first x a done.outcomes h here) done.stretch
    (begun_all live.feeds live.job live.state (events_of more) done.given done.stretch.states done.are_sent)
    (all_begun (afterwards form live s h.outcomes) a b x y z done.given done.outcomes (trace ∙ on) (chunk ∙ ap opening_text on) done.records wrote)

-- ---- a line is one of a list

of_one : (line : EventLine) → replicate line.times line.event ≡ events_of (line ∷ [])
of_one line = sym (append-nil (replicate line.times line.event))

pub one_fed : (feeds : Bool) (job : Job) (s t : State) (a b : Recorder) (x y : Option (List ℕ)) (line : EventLine) →
    IsFed feeds job s t a b x y (replicate line.times line.event) → IsFed feeds job s t a b x y (events_of (line ∷ []))
one_fed feeds job s t a b x y line done = subst (λ es. IsFed feeds job s t a b x y es) (of_one line) done

pub one_cut_short : (feeds : Bool) (job : Job) (s : State) (a : Recorder) (x y : Option (List ℕ)) (line : EventLine) →
    IsFedShort feeds job s a x y (replicate line.times line.event) → IsFedShort feeds job s a x y (events_of (line ∷ []))
one_cut_short feeds job s a x y line cut = subst (λ es. IsFedShort feeds job s a x y es) (of_one line) cut

pub fed_processes : (feeds : Bool) (job : Job) (s t : State) (a b : Recorder) (x y : Option (List ℕ)) (sent : List Event) →
    IsFed feeds job s t a b x y sent → Processes feeds job s t sent
fed_processes feeds job s t a b x y sent done =
    record { given = done.given; outcomes = done.outcomes; stretch = done.stretch; are_sent = done.are_sent }

-- a run whose text has arrived further
pub arrives : (form : LiveForm) (live : LiveData) (arriving : Arriving) (lines : List EventLine) (first now : Option (List ℕ)) →
    HasRun form live lines first now →
    HasRun form (record { job = live.job; state = live.state; arriving = arriving; switches = live.switches; paused = live.paused; feeds = live.feeds }) lines first now
arrives form live arriving lines first now h = record {
  given = h.given;
  outcomes = h.outcomes;
  run = h.run;
  are_sent = h.are_sent;
  written = h.written;
  reached = h.reached;
  ready = h.ready;
  paused = h.paused;
}

-- ---- nothing is fed yet

no_text : (form : LiveForm) (job : Job) → text_as (form_of form) job [] [] [] ≡ []
no_text live.Log job = refl
no_text live.Times job = refl
no_text (live.Samples inverted) job = refl

first_is : (form : LiveForm) (start : StepPos) (list : List Switch) → first_paused form start ≡ paused form start list []
first_is live.Log start list = refl
first_is live.Times start list = refl
first_is (live.Samples inverted) start list = refl

joined_of : (a : AcceptedData) (block_delete : Bool) → IsAccepted a → AreJoined a.machine.start (ways_of (actions_of (commands_at block_delete a)))
joined_of a false ok = ok.off_commands.joined
joined_of a true ok = ok.on_commands.joined

pub nothing_fed : (form : LiveForm) (a : AcceptedData) (block_delete : Bool) (live : LiveData) (at position : StepPos) (motors : MotorData)
    (commands : List Command) (xs : List Switch) (written : Option (List ℕ)) → IsAccepted a → live.job ≡ job_of a.machine (commands_at block_delete a) →
    live.state ≡ opening a.machine → at ≡ counts motors position → motors ≡ motors_of live.job.machine → position ≡ live.state.position →
    live.paused ≡ first_paused form at → commands ≡ commands_at block_delete a →
    AreSwitches (form_of form) commands xs → live.switches ≡ xs → HaveArrived [] [] live.arriving → IsLive form live [] written written
nothing_fed form a block_delete live at position motors commands xs written ok job opens stands own place samples cs are list arrived =
    let asked : Job = job_of a.machine (commands_at block_delete a) in
    let joined : AreJoined asked.machine.start (ways_of (actions_of asked.commands)) = joined_of a block_delete ok in
    let safe : RunsSafely live.job = safe_of a block_delete live.job ok job in
    let in_time : RunsInTime live.job = in_time_of a block_delete live.job ok job in
    let start : position ≡ start_of_job live.job = place ∙ ap (λ (s : State). s.position) opens ∙ ap start_of_job (sym job) in
    record {
      lines = [];
      arrived = arrived;
      has_run = record {
        given = [];
        outcomes = [];
        are_sent = tt;
        run = record { states = []; runs = tt; is_safe = safe [] [] [] tt; goes_on = tt; in_time = in_time [] [] [] tt tt };
        written = subst (Appends written written) (sym (no_text form live.job)) (Appends-nil written);
        reached = opens_of a block_delete live.job live.state job opens;
        ready = record {
          safe = safe;
          in_time = in_time;
          machine = subst (λ (j : Job). IsMachine j.machine) (sym job) ok.machine;
          joined = subst (λ (j : Job). AreJoined j.machine.start (ways_of (actions_of j.commands))) (sym job) joined;
          are = subst (λ (j : Job). AreSwitches (form_of form) j.commands live.switches) (sym job)
              (are_switches (form_of form) commands (commands_at block_delete a) xs live.switches cs list are);
        };
        paused =
            samples ∙ ap (first_paused form) (stands ∙ ap (λ m. counts m position) own ∙ ap (counts (motors_of live.job.machine)) start)
            ∙ first_is form (start_counts live.job) live.switches;
      };
    }
