-- A text that is written in two parts.
pub mod TwoParts
-- The log with ticks of more outcomes.
pub mod Timed
-- The text that outcomes add, in order.
pub mod Traces
-- Outcomes by the counts of motors.
pub mod Counted
-- The record of ticks without an output.
pub mod QuietTicks
-- Parts of a run, in order.
pub mod RunParts
-- The next event in a run by itself, and the policy over joined parts of a run.
pub mod Policy
-- The result of a run, from its record.
pub mod RunResults
-- A tick continues the head if the machine is neither held nor stopped.
pub mod Ticks
-- Loads, ticks and starts: none is refused, and the machine stays untouched.
pub mod UntouchedEvents
-- The machine stays untouched in ticks without an output.
pub mod UntouchedTicks
-- A motion whose ticks were made at once.
pub mod PassedMotions
-- The result of a run through a program, from its record.
pub mod WholeRun
-- A run by itself, part by part.
pub mod OwnRunParts
-- The pulses of the motors in a run are those that its outcomes command, by their counts.
pub mod CommandedPulses
-- The result of a run in one of the forms.
pub mod ResultForms
