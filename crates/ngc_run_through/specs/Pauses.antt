-- The text of a run between two pieces of its events. Our own.
use Rattle.ngc_pulses.specs.Sampling.{settled}
use Rattle.ngc_run_through.specs.declared.switches.Switches.{Switches}
use Rattle.ngc_run_through.specs.declared.text_state.TextState.{TextState}
use Rattle.ngc_run_through.specs.declared.text_state.TextState.TheVariants as texts
use Rattle.ngc_run_through.specs.declared.trace.Trace.{Trace}
use Rattle.ngc_run_through.specs.declared.trace.Trace.TheVariants.{Log, Times, Pulses, Samples, NotReported}

-- the text state that is kept of a trace once all its text is written
abbrev pub paused_at : Trace → TextState
paused_at Log = texts.Log
paused_at (Times ticks) = texts.Times ticks
paused_at (Pulses d) = texts.Log
paused_at (Samples d s) = texts.Samples (settled d)
paused_at NotReported = texts.Log

-- and the trace that continues from there
abbrev pub trace_from : TextState → Switches → Trace
trace_from texts.Log s = Log
trace_from (texts.Times ticks) s = Times ticks
trace_from (texts.Samples d) s = Samples (settled d) s
