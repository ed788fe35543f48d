-- The record of ticks without an output.
use Rattle.std.proofs.Common.{◌≡◌, ◌+◌, ℕ, zero, suc, List, [], ◌∷◌, ◌++◌, length, replicate, count_by, Option, None, Ok, Err, Result, OnOk, refl, ap, sym, subst, ◌∙◌, arith}
use Rattle.std.specs.List.{AllByRecursion}
use Rattle.std.proofs.KnownBytes.{Appends-nil}
use Rattle.std.proofs.lemmas.List.{append-nil}
use Rattle.ngc_events.specs.declared.event.Event.{Event}
use Rattle.ngc_events.specs.declared.event.Event.TheVariants.{Tick}
use Rattle.ngc_events.specs.declared.reply.Reply.TheVariants.{Ticked}
use Rattle.ngc_machine_model.specs.State.{Job, State}
use Rattle.ngc_machine_model.specs.Step.{Outcome}
use Rattle.ngc_machine_model.specs.Run.{positions}
use Rattle.ngc_machine_model.specs.Progress.{is_tick}
use Rattle.ngc_machine_model.specs.Stretch.{Stretch}
use Rattle.ngc_pulses.specs.Dumping.{DumpState, ticks_text, after_ticks}
use Rattle.ngc_pulses.specs.declared.samples.Switch.{Switch}
use Rattle.ngc_pulses.specs.Sampling.{SampleState, samples_text, after_samples, rested}
use Rattle.ngc_pulses.proofs.SampleLaws.{rest_tick, rests_text, rests_after}
use Rattle.ngc_run_through.specs.declared.switches.Switches.{Switches}
use Rattle.ngc_run_through.specs.declared.recorder.Recorder.{Recorder}
use Rattle.ngc_run_through.specs.declared.report.Report.{Report}
use Rattle.ngc_run_through.specs.declared.trace.Trace.{Trace}
use Rattle.ngc_run_through.specs.declared.trace.Trace.TheVariants.{Log, Times, Pulses, Samples, NotReported}
use Rattle.ngc_run_through.specs.Log.{log}
use Rattle.ngc_text.specs.Collected.{WritesPrefix}
use Rattle.ngc_text.specs.Written.{AppendsPrefix}
use Rattle.ngc_run_through.specs.Recording.{Counts, Records, IsRecorded, next_text, told_by}
use Rattle.ngc_run_through.specs.Runs.{is_refusal}
use Rattle.ngc_run_through.specs.Counting.{counted, counted_outcome, last_position}
use Rattle.ngc_motors.specs.Counts.{MotorData}
use Rattle.ngc_fixed_length.specs.declared.points.StepPos.{StepPos}
use Rattle.ngc_run_through.specs.Through.{IsLoadTickOrStart}
use Rattle.ngc_run_through.specs.Tracing.{ticks_in, samples_in, trace_text, trace_after}
use Rattle.ngc_run_through.specs.Times.{ticks_after}
use Rattle.ngc_run_through.proofs.RunParts.{count_by-append}
use Rattle.ngc_run_through.proofs.Timed.{quiet_counted, quiet_timed}

abbrev pub quiet : Outcome
quiet = Ok (Ticked None None)

-- ---- their counts

pub quiet_kinds : (n : ℕ) → AllByRecursion IsLoadTickOrStart (replicate n Tick)
quiet_kinds zero = tt
quiet_kinds (suc n) = (tt, quiet_kinds n)

pub quiet_ticks : (n : ℕ) → count_by is_tick (replicate n Tick) ≡ n
quiet_ticks zero = refl
quiet_ticks (suc n) =
    let rest = quiet_ticks n in
    let one : count_by is_tick (Tick ∷ []) ≡ 1 = refl in
    let more : count_by is_tick (Tick ∷ []) + count_by is_tick (replicate n Tick) ≡ suc n = omega (arith, rest, one) in
    count_by-append is_tick (Tick ∷ []) (replicate n Tick) ∙ more

pub quiet_refusals : (n : ℕ) → count_by is_refusal (replicate n quiet) ≡ 0
quiet_refusals zero = refl
quiet_refusals (suc n) = quiet_refusals n

pub quiet_positions : (n : ℕ) → positions (replicate n quiet) ≡ []
quiet_positions zero = refl
quiet_positions (suc n) = quiet_positions n

-- ---- their text

quiet_log : (n : ℕ) → log (replicate n quiet) ≡ []
quiet_log zero = refl
quiet_log (suc n) = quiet_log n

quiet_in : (n : ℕ) → ticks_in (replicate n quiet) ≡ replicate n None
quiet_in zero = refl
quiet_in (suc n) = ap (λ l. None ∷ l) (quiet_in n)

quiet_sampled : (list : List Switch) (n : ℕ) → samples_in list (replicate n quiet) ≡ replicate n rest_tick
quiet_sampled list zero = refl
quiet_sampled list (suc n) = ap (λ l. rest_tick ∷ l) (quiet_sampled list n)

none_text : (n : ℕ) (d : DumpState) → ticks_text d (replicate n None) ≡ []
none_text zero d = refl
none_text (suc n) d = none_text n (record d { ticks = d.ticks + 1 })

none_after : (n : ℕ) (d : DumpState) → after_ticks d (replicate n None) ≡ record d { ticks = d.ticks + n }
none_after zero d = let none : d.ticks ≡ d.ticks + 0 = omega arith in ap (λ t. record d { ticks = t }) none
none_after (suc n) d =
    let more : d.ticks + 1 + n ≡ d.ticks + suc n = omega arith in
    none_after n (record d { ticks = d.ticks + 1 }) ∙ ap (λ t. record d { ticks = t }) more

quiet_text : (t : Trace) (n : ℕ) → trace_text t (replicate n quiet) ≡ []
quiet_text Log n = quiet_log n
quiet_text (Times ticks) n = quiet_timed ticks n
quiet_text (Pulses d) n = ap (ticks_text d) (quiet_in n) ∙ none_text n d
quiet_text (Samples d s) n = ap (samples_text d) (quiet_sampled s.list.now n) ∙ rests_text n d
quiet_text NotReported n = refl

pub quiet_dumped : (n : ℕ) (d : DumpState) → trace_after (Pulses d) (replicate n quiet) ≡ Pulses (record d { ticks = d.ticks + n })
quiet_dumped n d = ap Pulses (ap (after_ticks d) (quiet_in n) ∙ none_after n d)

pub quiet_rested : (n : ℕ) (d : SampleState) (s : Switches) → trace_after (Samples d s) (replicate n quiet) ≡ Samples (rested n d) s
quiet_rested n d s = ap (λ k. Samples k s) (ap (after_samples d) (quiet_sampled s.list.now n) ∙ rests_after n d)

-- ---- their record

pub quiet_told : (n : ℕ) (m : MotorData) (p : StepPos) → counted m p (replicate n quiet) ≡ replicate n quiet
quiet_told zero m p = refl
quiet_told (suc n) m p = ap (λ l. quiet ∷ l) (quiet_told n m p)

pub quiet_recorded : (n : ℕ) (a b : Recorder) (x : Option (List ℕ)) → b.motors ≡ a.motors → b.report ≡ record a.report { ticks = a.report.ticks + n } →
    b.trace ≡ trace_after a.trace (replicate n quiet) → b.chunk ≡ a.chunk →
    Records (replicate n Tick) (replicate n quiet) a b x x
quiet_recorded n a b x motors report traced same = record {
  counts = record {
    ticks = ap (λ (r : Report). r.ticks) report ∙ ap (λ k. a.report.ticks + k) (sym (quiet_ticks n));
    path_steps = omega (arith, ap (λ (r : Report). r.path_steps) report, ap length (quiet_positions n));
    refused = omega (arith, ap (λ (r : Report). r.refused) report, quiet_refusals n);
    position = ap (λ (r : Report). r.position) report ∙ ap (last_position a.report.position) (sym (quiet_positions n));
  };
  motors = motors;
  trace = traced ∙ ap (trace_after a.trace) (sym told);
  collects = record {
    front = [];
    writes = Appends-nil x;
    splits = ap (λ l. a.chunk ++ l) (ap (trace_text a.trace) told ∙ quiet_text a.trace n) ∙ append-nil a.chunk ∙ sym same;
  };
} where
  told : told_by a (replicate n quiet) ≡ replicate n quiet
  told = quiet_told n a.motors a.report.position

-- an event without a text, and one with a text
pub one_quiet : (e : Event) (o told : Outcome) (a b : Recorder) (x : Option (List ℕ)) → Counts (e ∷ []) (o ∷ []) a.report b.report → b.motors ≡ a.motors →
    told ≡ counted_outcome a.motors a.report.position o → told ≡ quiet → b.trace ≡ trace_after a.trace (quiet ∷ []) → b.chunk ≡ a.chunk →
    Records (e ∷ []) (o ∷ []) a b x x
one_quiet e o told a b x counts motors is none traced same = record {
  counts = counts;
  motors = motors;
  trace = traced ∙ ap (λ (k : Outcome). trace_after a.trace (k ∷ [])) (sym none ∙ is);
  collects = record {
    front = [];
    writes = Appends-nil x;
    splits =
        ap (λ (k : Outcome). a.chunk ++ trace_text a.trace (k ∷ [])) (sym is ∙ none) ∙ ap (λ l. a.chunk ++ l) (quiet_text a.trace 1) ∙ append-nil a.chunk ∙ sym same;
  };
}

pub one_told : (e : Event) (o told : Outcome) (a b : Recorder) (x y : Option (List ℕ)) → Counts (e ∷ []) (o ∷ []) a.report b.report → b.motors ≡ a.motors →
    told ≡ counted_outcome a.motors a.report.position o → b.trace ≡ trace_after a.trace (told ∷ []) →
    WritesPrefix x y (a.chunk ++ trace_text a.trace (told ∷ [])) b.chunk → Records (e ∷ []) (o ∷ []) a b x y
one_told e o told a b x y counts motors is traced wrote = record {
  counts = counts;
  motors = motors;
  trace = traced ∙ ap (λ (k : Outcome). trace_after a.trace (k ∷ [])) is;
  collects = record {
    front = wrote.0;
    writes = wrote.1;
    splits = ap (λ (k : Outcome). a.chunk ++ trace_text a.trace (k ∷ [])) (sym is) ∙ wrote.2;
  };
}

pub on_ok_both : {T E : Type 0} {P Q R : Type 0} (r : Result T E) → (P → Q → R) → OnOk r P → OnOk r Q → OnOk r R
on_ok_both (Ok x) f p q = f p q
on_ok_both (Err e) f p q = tt

-- and one whose text couldn't be written
pub one_unwritten : (o told : Outcome) (a : Recorder) (x y : Option (List ℕ)) → told ≡ counted_outcome a.motors a.report.position o →
    AppendsPrefix x y (a.chunk ++ trace_text a.trace (told ∷ [])) → AppendsPrefix x y (a.chunk ++ next_text a (o ∷ []))
one_unwritten o told a x y is wrote = subst (λ (k : Outcome). AppendsPrefix x y (a.chunk ++ trace_text a.trace (k ∷ []))) is wrote

-- if the processed events are ticks
pub quiet_given : (job : Job) (s t : State) (a b : Recorder) (x : Option (List ℕ)) (e : Event) (n : ℕ) → e ≡ Tick →
    Stretch job s t (replicate n Tick) (replicate n quiet) → Records (replicate n Tick) (replicate n quiet) a b x x →
    IsRecorded job s t a b x x (replicate n e)
quiet_given job s t a b x e n is goes recorded =
    let P : Event → Type 0 = λ k. IsRecorded job s t a b x x (replicate n k) in
    subst P (sym is) (record { outcomes = replicate n quiet; stretch = goes; records = recorded })
