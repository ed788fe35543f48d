-- The text of a run in progress: its log, the dump or the samples of its pulses, or nothing. Our
-- own.
use Rattle.std.specs.Prelude.{ℕ, List, [], ◌∷◌, ◌++◌, flat_map, Option, Ok, Err}
use Rattle.ngc_fixed_length.specs.declared.points.StepPos.{StepPos}
use Rattle.ngc_events.specs.declared.reply.Reply.TheVariants.{Loaded, Ticked, Held, Resumed}
use Rattle.ngc_events.specs.declared.reply.Reply.TheVariants.{Overridden, Switched, Started}
use Rattle.ngc_machine_model.specs.Step.{Outcome}
use Rattle.ngc_pulses.specs.Vcd.{header}
use Rattle.ngc_pulses.specs.declared.samples.Switch.{Switch}
use Rattle.ngc_pulses.specs.declared.samples.Switch.TheVariants.{Nothing}
use Rattle.ngc_pulses.specs.Dumping.{DumpState, first_state, ticks_text, after_ticks, closing_text}
use Rattle.ngc_pulses.specs.Sampling.{SampleTick, first_samples, samples_text, after_samples}
use Rattle.ngc_pulses.specs.Sampling.{rest_bytes, switches_of}
use Rattle.ngc_run_through.specs.declared.switches.Switches.{Switches}
use Rattle.ngc_run_through.specs.declared.trace.Form.{Form}
use Rattle.ngc_run_through.specs.declared.trace.Form.TheVariants as forms
use Rattle.ngc_run_through.specs.declared.trace.Trace.{Trace}
use Rattle.ngc_run_through.specs.declared.trace.Trace.TheVariants.{Log, Times, Pulses, Samples, NotReported}
use Rattle.ngc_run_through.specs.Log.{log}
use Rattle.ngc_run_through.specs.Times.{ticks_after, timed_log}
use Rattle.ngc_run_through.specs.Switching.{switch_in}

-- the ticks among outcomes: the position to which the pulse of each leads, if it has one
abbrev pub tick_in : Outcome → List (Option StepPos)
tick_in (Ok (Ticked position ending)) = position ∷ []
tick_in (Ok (Loaded k)) = []
tick_in (Ok Held) = []
tick_in (Ok Resumed) = []
tick_in (Ok (Overridden n)) = []
tick_in (Ok (Switched on)) = []
tick_in (Ok Started) = []
tick_in (Err e) = []

abbrev pub ticks_in : List Outcome → List (Option StepPos)
ticks_in outcomes = flat_map tick_in outcomes

-- the ticks with what is switched in each; `list` is what the commands switch
abbrev pub sample_in : List Switch → Outcome → List SampleTick
sample_in list (Ok (Ticked position ending)) =
    record { position = position; switch = switch_in list ending } ∷ []
sample_in list (Ok (Loaded k)) = []
sample_in list (Ok Held) = []
sample_in list (Ok Resumed) = []
sample_in list (Ok (Overridden n)) = []
sample_in list (Ok (Switched on)) = []
sample_in list (Ok Started) = []
sample_in list (Err e) = []

-- an outcome's tick, if it is one, with what is switched in it
abbrev pub sampled : Switch → Outcome → List SampleTick
sampled switch (Ok (Ticked position ending)) =
    record { position = position; switch = switch } ∷ []
sampled switch (Ok (Loaded k)) = []
sampled switch (Ok Held) = []
sampled switch (Ok Resumed) = []
sampled switch (Ok (Overridden n)) = []
sampled switch (Ok (Switched on)) = []
sampled switch (Ok Started) = []
sampled switch (Err e) = []

abbrev pub samples_in : List Switch → List Outcome → List SampleTick
samples_in list outcomes = flat_map (sample_in list) outcomes

-- what is switched in each tick
abbrev pub switches_in : List Switch → List Outcome → List Switch
switches_in list outcomes = switches_of (samples_in list outcomes)

-- before the first event
abbrev pub trace_of : Form → ℕ → StepPos → Switches → Trace
trace_of forms.Log ticks_per_second position s = Log
trace_of forms.Times ticks_per_second position s = Times 0
trace_of forms.Pulses ticks_per_second position s = Pulses (first_state ticks_per_second position)
trace_of (forms.Samples inverted) ticks_per_second position s =
    Samples (first_samples inverted position) s

abbrev pub opening_text : Trace → List ℕ
opening_text Log = []
opening_text (Times ticks) = []
opening_text (Pulses d) = header
opening_text (Samples d s) = []
opening_text NotReported = []

-- of a dump
abbrev pub dump_text : DumpState → List Outcome → List ℕ
dump_text d outcomes = ticks_text d (ticks_in outcomes)

abbrev pub dump_after : DumpState → List Outcome → DumpState
dump_after d outcomes = after_ticks d (ticks_in outcomes)

-- the text that these outcomes add
abbrev pub trace_text : Trace → List Outcome → List ℕ
trace_text Log outcomes = log outcomes
trace_text (Times ticks) outcomes = timed_log ticks outcomes
trace_text (Pulses d) outcomes = dump_text d outcomes
trace_text (Samples d s) outcomes = samples_text d (samples_in s.list.now outcomes)
trace_text NotReported outcomes = []

abbrev pub trace_after : Trace → List Outcome → Trace
trace_after Log outcomes = Log
trace_after (Times ticks) outcomes = Times (ticks_after ticks outcomes)
trace_after (Pulses d) outcomes = Pulses (dump_after d outcomes)
trace_after (Samples d s) outcomes = Samples (after_samples d (samples_in s.list.now outcomes)) s
trace_after NotReported outcomes = NotReported

-- the number of counted ticks that is bounded: for samples, those that aren't written yet
abbrev pub ticks_of : Trace → ℕ
ticks_of Log = 0
ticks_of (Times ticks) = 0
ticks_of (Pulses d) = d.ticks
ticks_of (Samples d s) = d.resting
ticks_of NotReported = 0

-- what is switched in an outcome's tick, if that is written
abbrev pub switched_by : Trace → Outcome → Switch
switched_by (Samples d s) (Ok (Ticked position ending)) = switch_in s.list.now ending
switched_by _ _ = Nothing

-- after the last event
abbrev pub last_text : Trace → List ℕ
last_text Log = []
last_text (Times ticks) = []
last_text (Pulses d) = closing_text d
last_text (Samples d s) = rest_bytes d
last_text NotReported = []

abbrev pub whole_text : Trace → List Outcome → List ℕ
whole_text trace outcomes =
    opening_text trace ++ (trace_text trace outcomes ++ last_text (trace_after trace outcomes))
