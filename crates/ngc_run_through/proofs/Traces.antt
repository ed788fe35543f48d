-- The text that outcomes add, in order.
use Rattle.std.proofs.Common.{◌≡◌, ℕ, Option, subst, sym, ◌+◌, ◌≤◌, List, [], ◌∷◌, ◌++◌, length, Ok, Err, refl, ap, ◌∙◌, arith, lit≤}
use Rattle.std.proofs.lemmas.List.{append-nil, length-append}
use Rattle.std.proofs.lemmas.Grind.{flat_map-append}
use Rattle.ngc_events.specs.declared.reply.Reply.TheVariants.{Loaded, Ticked, Held, Resumed, Overridden, Switched, Started}
use Rattle.ngc_machine_model.specs.Step.{Outcome}
use Rattle.ngc_pulses.specs.Dumping.{ticks_text, after_ticks}
use Rattle.ngc_pulses.specs.declared.samples.Switch.{Switch}
use Rattle.ngc_text.specs.Written.{AppendsPrefix}
use Rattle.ngc_fixed_length.specs.declared.points.StepPos.{StepPos}
use Rattle.ngc_events.specs.declared.reply.Ending.{Ending}
use Rattle.ngc_pulses.specs.Sampling.{SampleState, sample_text, samples_text, after_samples}
use Rattle.ngc_pulses.proofs.SampleLaws.{samples_text-append, after_samples-append, few_rest}
use Rattle.ngc_pulses.proofs.Dumps.{ticks_text-append, after_ticks-append, ticks_after}
use Rattle.ngc_run_through.specs.declared.trace.Trace.{Trace}
use Rattle.ngc_run_through.specs.declared.trace.Trace.TheVariants.{Log, Times, Pulses, Samples, NotReported}
use Rattle.ngc_run_through.specs.Log.{text_of}
use Rattle.ngc_run_through.proofs.Timed.{ticks_after-append, timed_log-append}
use Rattle.ngc_run_through.specs.Tracing.{tick_in, ticks_in, sampled, sample_in, samples_in, trace_text, trace_after, ticks_of}

pub trace_text-append : (t : Trace) (os ps : List Outcome) → trace_text t (os ++ ps) ≡ trace_text t os ++ trace_text (trace_after t os) ps
trace_text-append Log os ps = flat_map-append text_of os ps
trace_text-append (Times ticks) os ps = timed_log-append ticks os ps
trace_text-append (Pulses d) os ps = ap (ticks_text d) (flat_map-append tick_in os ps) ∙ ticks_text-append d (ticks_in os) (ticks_in ps)
trace_text-append (Samples d s) os ps =
    ap (samples_text d) (flat_map-append (sample_in s.list.now) os ps) ∙ samples_text-append d (samples_in s.list.now os) (samples_in s.list.now ps)
trace_text-append NotReported os ps = refl

pub trace_after-append : (t : Trace) (os ps : List Outcome) → trace_after t (os ++ ps) ≡ trace_after (trace_after t os) ps
trace_after-append Log os ps = refl
trace_after-append (Times ticks) os ps = ap Times (ticks_after-append ticks os ps)
trace_after-append (Pulses d) os ps = ap Pulses (ap (after_ticks d) (flat_map-append tick_in os ps) ∙ after_ticks-append d (ticks_in os) (ticks_in ps))
trace_after-append (Samples d s) os ps =
    ap (λ k. Samples k s) (ap (after_samples d) (flat_map-append (sample_in s.list.now) os ps) ∙ after_samples-append d (samples_in s.list.now os) (samples_in s.list.now ps))
trace_after-append NotReported os ps = refl

pub trace_text-none : (t : Trace) → trace_text t [] ≡ []
trace_text-none Log = refl
trace_text-none (Times ticks) = refl
trace_text-none (Pulses d) = refl
trace_text-none (Samples d s) = refl
trace_text-none NotReported = refl

pub trace_after-none : (t : Trace) → trace_after t [] ≡ t
trace_after-none Log = refl
trace_after-none (Times ticks) = refl
trace_after-none (Pulses d) = refl
trace_after-none (Samples d s) = refl
trace_after-none NotReported = refl

-- an outcome is at most one tick
one_tick : (o : Outcome) → length (tick_in o) ≤ 1
one_tick (Ok (Ticked p ending)) = lit≤ tt
one_tick (Ok (Loaded k)) = lit≤ tt
one_tick (Ok Held) = lit≤ tt
one_tick (Ok Resumed) = lit≤ tt
one_tick (Ok (Overridden n)) = lit≤ tt
one_tick (Ok (Switched on)) = lit≤ tt
one_tick (Ok Started) = lit≤ tt
one_tick (Err e) = lit≤ tt

few_in : (os : List Outcome) → length (ticks_in os) ≤ length os
few_in [] = omega arith
few_in (o ∷ os) = omega (arith, one_tick o, few_in os, length-append (tick_in o) (ticks_in os))

-- and at most one sampled tick
one_sample : (list : List Switch) (o : Outcome) → length (sample_in list o) ≤ 1
one_sample list (Ok (Ticked p ending)) = lit≤ tt
one_sample list (Ok (Loaded k)) = lit≤ tt
one_sample list (Ok Held) = lit≤ tt
one_sample list (Ok Resumed) = lit≤ tt
one_sample list (Ok (Overridden n)) = lit≤ tt
one_sample list (Ok (Switched on)) = lit≤ tt
one_sample list (Ok Started) = lit≤ tt
one_sample list (Err e) = lit≤ tt

few_sampled : (list : List Switch) (os : List Outcome) → length (samples_in list os) ≤ length os
few_sampled list [] = omega arith
few_sampled list (o ∷ os) = omega (arith, one_sample list o, few_sampled list os, length-append (sample_in list o) (samples_in list os))

pub few_ticks : (t : Trace) (os : List Outcome) → ticks_of (trace_after t os) ≤ ticks_of t + length os
few_ticks Log os = omega arith
few_ticks (Times ticks) os = omega arith
few_ticks (Pulses d) os = omega (arith, ticks_after d (ticks_in os), few_in os)
few_ticks (Samples d s) os = omega (arith, few_rest d (samples_in s.list.now os), few_sampled s.list.now os)
few_ticks NotReported os = omega arith

-- ---- a sampled tick

pub sampled_begun : (s : SampleState) (switch : Switch) (p : Option StepPos) (ending : Option Ending) (o : Outcome) (x y : Option (List ℕ)) (a : List ℕ) →
    o ≡ Ok (Ticked p ending) → AppendsPrefix x y (a ++ sample_text s (record { position = p; switch = switch })) →
    AppendsPrefix x y (a ++ samples_text s (sampled switch o))
sampled_begun s switch p ending o x y a is wrote =
    let P : Outcome → Type 0 = λ k. AppendsPrefix x y (a ++ samples_text s (sampled switch k)) in
    let Q : List ℕ → Type 0 = λ l. AppendsPrefix x y (a ++ l) in
    subst P (sym is) (subst Q (sym (append-nil (sample_text s (record { position = p; switch = switch })))) wrote)
