-- The result of a run in one of the forms.
use Rattle.std.proofs.Common.{◌≡◌, ◌++◌, [], ◌∷◌, ℕ, List, Option, Bool, true, false, Result, Ok, Err, refl, ap, subst, sym, ◌∙◌}
use Rattle.std.proofs.lemmas.List.{append-nil, map-append}
use Rattle.std.specs.Io.KnownBytes.{Appends}
use Rattle.ngc_text.specs.Written.{AppendsPrefix}
use Rattle.ngc_fixed_length.specs.declared.points.StepPos.{StepPos}
use Rattle.ngc_machine_files.specs.MachineRanges.{IsMachine}
use Rattle.ngc_commands.specs.declared.command.Command.{Command}
use Rattle.ngc_commands.specs.Movement.{actions_of, ways_of, AreJoined}
use Rattle.ngc_checker.specs.Accepted.{AcceptedData, IsAccepted, commands_at}
use Rattle.ngc_events.specs.declared.event.Event.{Event}
use Rattle.ngc_events.specs.declared.event.EventLine.{EventLine}
use Rattle.ngc_events.specs.declared.reply.Reply.TheVariants.{Loaded, Ticked, Held, Resumed, Overridden, Switched, Started}
use Rattle.ngc_machine_model.specs.Headline.{job_of}
use Rattle.ngc_machine_model.specs.State.{Job, State, opening}
use Rattle.ngc_machine_model.specs.Step.{Outcome}
use Rattle.ngc_machine_model.specs.Run.{Run}
use Rattle.ngc_machine_model.specs.Safety.{start_of_job}
use Rattle.ngc_pulses.specs.declared.samples.Switch.{Switch}
use Rattle.ngc_pulses.specs.Dumping.{pulses_over}
use Rattle.ngc_pulses.specs.Samples.{samples}
use Rattle.ngc_pulses.specs.Sampling.{SampleTick, positions_of}
use Rattle.ngc_pulses.specs.Vcd.{vcd}
use Rattle.ngc_pulses.proofs.SampleLaws.{whole_samples}
use Rattle.ngc_run_through.specs.declared.switches.Switches.{Switches}
use Rattle.ngc_run_through.specs.Switching.{AreSwitches}
use Rattle.ngc_pulses.proofs.Dumps.{whole_dump}
use Rattle.ngc_run_through.specs.declared.report.Report.{Report}
use Rattle.ngc_run_through.specs.declared.report.RunFault.{RunFault}
use Rattle.ngc_run_through.specs.declared.report.RunFault.TheVariants.{Memory, Write}
use Rattle.ngc_run_through.specs.declared.trace.Form.{Form}
use Rattle.ngc_run_through.specs.declared.trace.Form.TheVariants.{Log, Times, Pulses, Samples}
use Rattle.ngc_run_through.specs.declared.trace.Trace.{Trace}
use Rattle.ngc_motors.specs.Counts.{MotorData, counts}
use Rattle.ngc_machine_files.specs.Machine.{motors_of}
use Rattle.ngc_run_through.specs.Counting.{counted_of, motor_pulses}
use Rattle.ngc_run_through.specs.Log.{log}
use Rattle.ngc_run_through.specs.Times.{timed_log}
use Rattle.ngc_run_through.specs.Tracing.{tick_in, ticks_in, sample_in, samples_in, switches_in, trace_of, ticks_of, whole_text}
use Rattle.ngc_run_through.specs.Runs.{ResultsIn}
use Rattle.ngc_run_through.specs.Through.{RunsToEnd}
use Rattle.ngc_run_through.specs.Forms.{text_as, IsWrittenRun, IsUnwrittenRun, ResultsAs, IsWrittenThrough, IsWrittenOff, RunsToEndAs, IsTracedRun, IsUntracedRun}
use Rattle.ngc_run_through.specs.Forms.{IsTracedThrough, IsTracedOff}
use Rattle.ngc_run_through.proofs.CommandedPulses.{run_pulses}
use Rattle.ngc_run_through.proofs.Counted.{switches_kept}

-- ---- the trace of a job

-- the counts at which a job's motors stand at first
abbrev pub start_counts : Job → StepPos
start_counts job = counts (motors_of job.machine) (start_of_job job)

-- the trace with which a job begins, and what makes its text that of the pulses
pub record IsTraceOf (form : Form) (job : Job) (trace : Trace) : Type 0 where
  pub machine : IsMachine job.machine
  pub joined : AreJoined job.machine.start (ways_of (actions_of job.commands))
  pub list : Switches
  pub are : AreSwitches form job.commands list.list.now
  pub is : trace ≡ trace_of form job.machine.ticks_per_second (start_counts job) list

pub are_switches : (form : Form) (cs ds : List Command) (xs ys : List Switch) → cs ≡ ds → ys ≡ xs → AreSwitches form cs xs → AreSwitches form ds ys
are_switches form cs ds xs ys same kept are = subst (λ l. AreSwitches form l ys) same (subst (AreSwitches form cs) (sym kept) are)

pub trace_is : (form : Form) (a : AcceptedData) (block_delete : Bool) (trace : Trace) (rate : ℕ) (first position : StepPos) (motors : MotorData) (state : State) (list : Switches) →
    IsAccepted a → AreSwitches form (commands_at block_delete a) list.list.now → trace ≡ trace_of form rate first list →
    rate ≡ a.machine.ticks_per_second → first ≡ counts motors position → motors ≡ motors_of a.machine → position ≡ state.position → state ≡ opening a.machine →
    IsTraceOf form (job_of a.machine (commands_at block_delete a)) trace
trace_is form a block_delete trace rate first position motors state list ok are is ticks stands own place opens = record {
  machine = ok.machine;
  joined = at block_delete;
  list = list;
  are = are;
  is =
      is ∙ ap (λ n. trace_of form n first list) ticks
      ∙ ap (λ p. trace_of form a.machine.ticks_per_second p list)
      (stands ∙ ap (λ m. counts m position) own ∙ ap (counts (motors_of a.machine)) (place ∙ ap (λ (s : State). s.position) opens));
} where
  at : (block_delete : Bool) → AreJoined a.machine.start (ways_of (actions_of (commands_at block_delete a)))
  at false = ok.off_commands.joined
  at true = ok.on_commands.joined

pub none_ticked : (form : Form) (trace : Trace) (rate : ℕ) (position : StepPos) (list : Switches) → trace ≡ trace_of form rate position list →
    ticks_of trace ≡ 0
none_ticked form trace rate position list is = ap ticks_of is ∙ none form where
  none : (form : Form) → ticks_of (trace_of form rate position list) ≡ 0
  none Log = refl
  none Times = refl
  none (Samples inverted) = refl
  none Pulses = refl

-- ---- the text

-- the ticks that are sampled have the positions of all ticks
sampled_one : (list : List Switch) (o : Outcome) → positions_of (sample_in list o) ≡ tick_in o
sampled_one list (Ok (Ticked p ending)) = refl
sampled_one list (Ok (Loaded k)) = refl
sampled_one list (Ok Held) = refl
sampled_one list (Ok Resumed) = refl
sampled_one list (Ok (Overridden n)) = refl
sampled_one list (Ok (Switched on)) = refl
sampled_one list (Ok Started) = refl
sampled_one list (Err e) = refl

sampled_places : (list : List Switch) (os : List Outcome) → positions_of (samples_in list os) ≡ ticks_in os
sampled_places list [] = refl
sampled_places list (o ∷ os) =
    map-append (λ (t : SampleTick). t.position) (sample_in list o) (samples_in list os)
    ∙ ap (λ l. l ++ positions_of (samples_in list os)) (sampled_one list o) ∙ ap (λ l. tick_in o ++ l) (sampled_places list os)

first_text : (form : Form) (job : Job) (list : Switches) (es : List Event) (os : List Outcome) (xs : List State) → IsMachine job.machine →
    AreJoined job.machine.start (ways_of (actions_of job.commands)) → AreSwitches form job.commands list.list.now → Run job (opening job.machine) es os xs →
    whole_text (trace_of form job.machine.ticks_per_second (start_counts job) list) (counted_of job os) ≡ text_as form job es os xs
first_text Log job list es os xs machine joined are r = append-nil (log (counted_of job os))
first_text Times job list es os xs machine joined are r = append-nil (timed_log 0 (counted_of job os))
first_text (Samples inverted) job list es os xs machine joined are r =
    let told : List Outcome = counted_of job os in
    whole_samples inverted (start_counts job) (samples_in list.list.now told)
    ∙ ap (λ ticks. samples inverted (pulses_over (start_counts job) ticks) (switches_in list.list.now told)) (sampled_places list.list.now told)
    ∙ ap (λ ps. samples inverted ps (switches_in list.list.now told)) (sym (run_pulses job es os xs machine joined r))
    ∙ ap (samples inverted (motor_pulses job es xs)) (switches_kept list.list.now (motors_of job.machine) (start_of_job job) os)
    ∙ ap (λ l. samples inverted (motor_pulses job es xs) (switches_in l os)) are
first_text Pulses job list es os xs machine joined are r =
    whole_dump job.machine.ticks_per_second (start_counts job) (ticks_in (counted_of job os))
    ∙ ap (vcd job.machine.ticks_per_second) (sym (run_pulses job es os xs machine joined r))

pub text_of_run : (form : Form) (job : Job) (trace : Trace) (es : List Event) (os : List Outcome) (xs : List State) → IsTraceOf form job trace →
    Run job (opening job.machine) es os xs → whole_text trace (counted_of job os) ≡ text_as form job es os xs
text_of_run form job trace es os xs t r = ap (λ (x : Trace). whole_text x (counted_of job os)) t.is ∙ first_text form job t.list es os xs t.machine t.joined t.are r

-- ---- the result of a run

written_run : (form : Form) (trace : Trace) (job : Job) (lines : List EventLine) (x y : Option (List ℕ)) (report : Report) → IsTraceOf form job trace →
    IsTracedRun trace job lines x y report → IsWrittenRun form job lines x y report
written_run form trace job lines x y report t r = record {
  outcomes = r.outcomes;
  run = r.run;
  written = subst (Appends x y) (text_of_run form job trace _ r.outcomes r.run.states t r.run.runs) r.written;
  reports = r.reports;
}

unwritten_run : (form : Form) (trace : Trace) (job : Job) (lines : List EventLine) (x y : Option (List ℕ)) → IsTraceOf form job trace →
    IsUntracedRun trace job lines x y → IsUnwrittenRun form job lines x y
unwritten_run form trace job lines x y t r = record {
  given = r.given;
  left = r.left;
  are_first = r.are_first;
  outcomes = r.outcomes;
  run = r.run;
  written = subst (AppendsPrefix x y) (text_of_run form job trace _ r.outcomes r.run.states t r.run.runs) r.written;
}

pub run_written : (form : Form) (trace : Trace) (job asked : Job) (lines : List EventLine) (x y : Option (List ℕ)) (report : Report) →
    IsTraceOf form asked trace → job ≡ asked → IsTracedRun trace job lines x y report →
    IsWrittenRun form asked lines x y report
run_written form trace job asked lines x y report t same r =
    written_run form trace asked lines x y report t (subst (λ (j : Job). IsTracedRun trace j lines x y report) same r)

pub run_unwritten : (form : Form) (trace : Trace) (job asked : Job) (lines : List EventLine) (x y : Option (List ℕ)) → IsTraceOf form asked trace →
    job ≡ asked → IsUntracedRun trace job lines x y →
    IsUnwrittenRun form asked lines x y
run_unwritten form trace job asked lines x y t same r = unwritten_run form trace asked lines x y t (subst (λ (j : Job). IsUntracedRun trace j lines x y) same r)

-- ---- the result of a run through the program

written_through : (form : Form) (trace : Trace) (job : Job) (x y : Option (List ℕ)) (report : Report) → IsTraceOf form job trace →
    IsTracedThrough trace job x y report → IsWrittenThrough form job x y report
written_through form trace job x y report t r = record {
  events = r.events;
  outcomes = r.outcomes;
  smooth = r.smooth;
  done = r.done;
  ended = r.ended;
  told = r.told;
  written = subst (Appends x y) (text_of_run form job trace r.events r.outcomes r.smooth.run.states t r.smooth.run.runs) r.written;
  reports = r.reports;
}

written_off : (form : Form) (trace : Trace) (job : Job) (x y : Option (List ℕ)) → IsTraceOf form job trace → IsTracedOff trace job x y →
    IsWrittenOff form job x y
written_off form trace job x y t r = record {
  given = r.given;
  outcomes = r.outcomes;
  smooth = r.smooth;
  written = subst (AppendsPrefix x y) (text_of_run form job trace r.given r.outcomes r.smooth.run.states t r.smooth.run.runs) r.written;
}

pub through_written : (form : Form) (trace : Trace) (job asked : Job) (x y : Option (List ℕ)) (report : Report) → IsTraceOf form asked trace → job ≡ asked →
    IsTracedThrough trace job x y report → IsWrittenThrough form asked x y report
through_written form trace job asked x y report t same r =
    written_through form trace asked x y report t (subst (λ (j : Job). IsTracedThrough trace j x y report) same r)

pub through_off : (form : Form) (trace : Trace) (job asked : Job) (x y : Option (List ℕ)) → IsTraceOf form asked trace → job ≡ asked →
    IsTracedOff trace job x y → IsWrittenOff form asked x y
through_off form trace job asked x y t same r = written_off form trace asked x y t (subst (λ (j : Job). IsTracedOff trace j x y) same r)

-- ---- the log

pub logged : (job : Job) (lines : List EventLine) (x y : Option (List ℕ)) (r : Result Report RunFault) → ResultsAs Log job lines x y r → ResultsIn job lines x y r
logged job lines x y (Ok report) w = record { outcomes = w.outcomes; run = w.run; logged = w.written; reports = w.reports }
logged job lines x y (Err (Write fault)) w =
    record { given = w.given; left = w.left; are_first = w.are_first; outcomes = w.outcomes; run = w.run; logged = w.written }
logged job lines x y (Err Memory) w = w

pub logged_through : (job : Job) (x y : Option (List ℕ)) (r : Result Report RunFault) → RunsToEndAs Log job x y r → RunsToEnd job x y r
logged_through job x y (Ok report) w =
    record {
      events = w.events;
      outcomes = w.outcomes;
      smooth = w.smooth;
      done = w.done;
      ended = w.ended;
      told = w.told;
      logged = w.written;
      reports = w.reports;
    }
logged_through job x y (Err (Write fault)) w = record { given = w.given; outcomes = w.outcomes; smooth = w.smooth; logged = w.written }
logged_through job x y (Err Memory) w = w
