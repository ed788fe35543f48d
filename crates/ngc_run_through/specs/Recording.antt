-- The recorded result of a part of a run. Our own.
use Rattle.std.specs.Prelude.{◌≡◌, ℕ, ◌+◌, ◌≤◌, List, ◌++◌, length, count_by, Option}
use Rattle.std.specs.Io.KnownBytes.{Appends}
use Rattle.ngc_text.specs.Written.{AppendsPrefix}
use Rattle.ngc_events.specs.declared.event.Event.{Event}
use Rattle.ngc_machine_model.specs.State.{Job, State}
use Rattle.ngc_machine_model.specs.Step.{Outcome}
use Rattle.ngc_machine_model.specs.Run.{positions}
use Rattle.ngc_machine_model.specs.Progress.{is_tick}
use Rattle.ngc_machine_model.specs.Stretch.{Stretch}
use Rattle.ngc_run_through.specs.declared.report.Report.{Report}
use Rattle.ngc_run_through.specs.declared.recorder.Recorder.{Recorder}
use Rattle.ngc_run_through.specs.Tracing.{trace_text, trace_after, ticks_of}
use Rattle.ngc_run_through.specs.Counting.{counted, last_position}
use Rattle.ngc_run_through.specs.Runs.{is_refusal}

-- the report's numbers grow by those of these events
pub record Counts (events : List Event) (outcomes : List Outcome) (old new : Report) : Type 0 where
  pub ticks : new.ticks ≡ old.ticks + count_by is_tick events
  pub path_steps : new.path_steps ≡ old.path_steps + length (positions outcomes)
  pub refused : new.refused ≡ old.refused + count_by is_refusal outcomes
  pub position : new.position ≡ last_position old.position (positions outcomes)

-- none of the report's counts is above n
pub record AreAtMost (n : ℕ) (report : Report) : Type 0 where
  pub ticks : report.ticks ≤ n
  pub path_steps : report.path_steps ≤ n
  pub refused : report.refused ≤ n

-- and the recorder hasn't counted more
pub record HasFew (n : ℕ) (recorder : Recorder) : Type 0 where
  pub report : AreAtMost n recorder.report
  pub ticks : ticks_of recorder.trace ≤ n

-- A text was added after the collected one. A prefix of both is written, and the rest is still
-- collected.
pub record Collects (old new : Option (List ℕ)) (before text after : List ℕ) : Type 0 where
  pub front : List ℕ
  pub writes : Appends old new front
  pub splits : before ++ text ≡ front ++ after

-- outcomes as the text has them that follows what is recorded
abbrev pub told_by : Recorder → List Outcome → List Outcome
told_by recorder outcomes = counted recorder.motors recorder.report.position outcomes

-- the text of these outcomes
abbrev pub next_text : Recorder → List Outcome → List ℕ
next_text recorder outcomes = trace_text recorder.trace (told_by recorder outcomes)

-- these events are counted, and their text is collected
pub record Records (events : List Event) (outcomes : List Outcome) (before after : Recorder)
    (written now : Option (List ℕ)) : Type 0 where
  pub counts : Counts events outcomes before.report after.report
  pub motors : after.motors ≡ before.motors
  pub trace : after.trace ≡ trace_after before.trace (told_by before outcomes)
  pub collects : Collects written now before.chunk (next_text before outcomes) after.chunk

-- all these events were processed and recorded
pub record IsRecorded (job : Job) (old new : State) (before after : Recorder)
    (written now : Option (List ℕ)) (events : List Event) : Type 0 where
  pub outcomes : List Outcome
  pub stretch : Stretch job old new events outcomes
  pub records : Records events outcomes before after written now

-- a prefix of these events was processed, and then a write failed
pub record IsCutShort (job : Job) (old : State) (before : Recorder) (written now : Option (List ℕ))
    (events : List Event) : Type 0 where
  pub given : List Event
  pub left : List Event
  pub are_first : events ≡ given ++ left
  pub outcomes : List Outcome
  pub reached : State
  pub stretch : Stretch job old reached given outcomes
  pub begun : AppendsPrefix written now (before.chunk ++ next_text before outcomes)
