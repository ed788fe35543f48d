-- A run whose events arrive while it is in progress. Our own.
use Rattle.std.specs.Prelude.{◌≡◌, ◌⊎◌, ℕ, ◌+◌, ◌*◌, ◌<◌, ◌==◌, List, [], ◌∷◌, ◌++◌, length, replicate}
use Rattle.std.specs.Prelude.{Option, Some, None, Result, Ok, Err, MatchResult, Bool, true, false}
use Rattle.std.specs.Prelude.{MatchBool, if◌then◌else◌}
use Rattle.std.specs.Borrow.{Bor}
use Rattle.std.specs.Io.KnownBytes.{Appends, Consumes}
use Rattle.ngc_text.specs.declared.device.DeviceFault.{DeviceFault}
use Rattle.ngc_text.specs.Failures.{Rises}
use Rattle.ngc_text.specs.Written.{AppendsPrefix}
use Rattle.ngc_fixed_length.specs.declared.points.StepPos.{StepPos}
use Rattle.ngc_motors.specs.Counts.{counts}
use Rattle.ngc_machine_files.specs.Machine.{motors_of}
use Rattle.ngc_machine_files.specs.MachineRanges.{IsMachine}
use Rattle.ngc_commands.specs.Movement.{actions_of, ways_of, AreJoined}
use Rattle.ngc_events.specs.Arriving.{Arriving, Begins, Ends, HaveArrived, StopsAfter, TakesOne}
use Rattle.ngc_events.specs.declared.event.Event.{Event}
use Rattle.ngc_events.specs.declared.event.Event.TheVariants.{Hold, Tick}
use Rattle.ngc_events.specs.declared.event.EventLine.{EventLine}
use Rattle.ngc_events.specs.declared.fault.EventsFault.{EventsFault}
use Rattle.ngc_machine_model.specs.Headline.{RunsInTime, RunsSafely}
use Rattle.ngc_machine_model.specs.State.{Job, State, opening, least_change}
use Rattle.ngc_machine_model.specs.Step.{Outcome}
use Rattle.ngc_machine_model.specs.Run.{events_of}
use Rattle.ngc_machine_model.specs.Safety.{start_of_job}
use Rattle.ngc_machine_model.specs.Stretch.{last_state}
use Rattle.ngc_pulses.specs.declared.samples.Switch.{Switch}
use Rattle.ngc_pulses.specs.Sampling.{after_samples, first_samples, settled}
use Rattle.ngc_run_log.specs.declared.live_fault.LiveFault.{LiveFault}
use Rattle.ngc_run_log.specs.declared.live_fault.LiveFault.TheVariants.{Events, Read, Write}
use Rattle.ngc_run_log.specs.declared.live_form.LiveForm.{LiveForm}
use Rattle.ngc_run_log.specs.declared.live_form.LiveForm.TheVariants as live
use Rattle.ngc_run_through.specs.declared.text_state.TextState.{TextState}
use Rattle.ngc_run_through.specs.declared.text_state.TextState.TheVariants as texts
use Rattle.ngc_run_through.specs.declared.trace.Form.{Form}
use Rattle.ngc_run_through.specs.declared.trace.Form.TheVariants as forms
use Rattle.ngc_run_through.specs.Counting.{counted_of}
use Rattle.ngc_run_through.specs.Forms.{text_as}
use Rattle.ngc_run_log.specs.Feeding.{AreBegun, AreSent}
use Rattle.ngc_run_through.specs.Runs.{IsRun}
use Rattle.ngc_run_through.specs.Switching.{AreSwitches}
use Rattle.ngc_run_through.specs.Times.{ticks_after}
use Rattle.ngc_run_through.specs.Tracing.{samples_in}

-- the form in which the run is written
abbrev pub form_of : LiveForm → Form
form_of live.Log = forms.Log
form_of live.Times = forms.Times
form_of (live.Samples inverted) = forms.Samples inverted

-- ---- the text between two pieces

-- the text state of motors at these counts before the first event, and after outcomes that have
-- counts
abbrev pub first_paused : LiveForm → StepPos → TextState
first_paused live.Log position = texts.Log
first_paused live.Times position = texts.Times 0
first_paused (live.Samples inverted) position = texts.Samples (first_samples inverted position)

abbrev pub paused : LiveForm → StepPos → List Switch → List Outcome → TextState
paused live.Log position list outcomes = texts.Log
paused live.Times position list outcomes = texts.Times (ticks_after 0 outcomes)
paused (live.Samples inverted) position list outcomes = texts.Samples
    (settled (after_samples (first_samples inverted position) (samples_in list outcomes)))

-- ---- the run so far

-- What is known of a live run: its job, the machine's state, the text that has arrived, what the
-- commands switch, the text state so far, and whether the ring is fed.
pub record LiveData : Type 0 where
  pub job : Job
  pub state : State
  pub arriving : Arriving
  pub switches : List Switch
  pub paused : TextState
  pub feeds : Bool

-- what makes each run of a job safe and done in time, and its text that of its pulses
pub record IsReady (form : LiveForm) (job : Job) (list : List Switch) : Type 0 where
  pub safe : RunsSafely job
  pub in_time : RunsInTime job
  pub machine : IsMachine job.machine
  pub joined : AreJoined job.machine.start (ways_of (actions_of job.commands))
  pub are : AreSwitches (form_of form) job.commands list

-- The machine processed the events of these lines, with the loads that come before ticks where the
-- ring is fed. The text of their run, which is safe, was written since the start, and the machine
-- is in the run's last state.
pub record HasRun (form : LiveForm) (live : LiveData) (lines : List EventLine)
    (first now : Option (List ℕ)) : Type 0 where
  pub given : List Event
  pub outcomes : List Outcome
  pub run : IsRun live.job given outcomes
  pub are_sent : AreSent live.feeds live.job (opening live.job.machine) (events_of lines) given
      run.states
  pub written : Appends first now (text_as (form_of form) live.job given outcomes run.states)
  pub reached : live.state ≡ last_state (opening live.job.machine) run.states
  pub ready : IsReady form live.job live.switches
  pub paused : live.paused ≡ paused form (counts (motors_of live.job.machine) (start_of_job live.job)) live.switches
      (counted_of live.job outcomes)

-- This text has arrived since the start. The events of all lines that are complete in it were
-- processed, and the whole text of their run was written.
pub record IsLive (form : LiveForm) (live : LiveData) (text : List ℕ)
    (first now : Option (List ℕ)) : Type 0 where
  pub lines : List EventLine
  pub arrived : HaveArrived text lines live.arriving
  pub has_run : HasRun form live lines first now

-- A line of the text isn't an event. The events of the lines before it were processed, and the
-- whole text of their run was written.
pub record IsStopped (form : LiveForm) (live : LiveData) (text : List ℕ)
    (first now : Option (List ℕ)) (fault : EventsFault) : Type 0 where
  pub lines : List EventLine
  pub stops : StopsAfter text lines fault
  pub has_run : HasRun form live lines first now

-- A write failed. A prefix of the events of these lines was processed, and what was written is a
-- prefix of the text of their run.
pub record IsCutRun (form : LiveForm) (feeds : Bool) (job : Job) (lines : List EventLine)
    (first now : Option (List ℕ)) : Type 0 where
  pub given : List Event
  pub outcomes : List Outcome
  pub run : IsRun job given outcomes
  pub are_begun : AreBegun feeds job (opening job.machine) (events_of lines) given run.states
  pub written : AppendsPrefix first now (text_as (form_of form) job given outcomes run.states)

-- the same of lines with which the text begins
pub record IsBrokenLive (form : LiveForm) (feeds : Bool) (job : Job) (text : List ℕ)
    (first now : Option (List ℕ)) : Type 0 where
  pub lines : List EventLine
  pub begins : Begins text lines
  pub cut : IsCutRun form feeds job lines first now

-- ---- a line

-- The result for a piece that follows a text of these lines: it completes no line; or its first
-- line was processed, the whole result of the lines up to it was written, and these bytes follow
-- it; or its first line isn't an event; or a write failed.
abbrev pub FeedsLine : LiveForm → LiveData → List ℕ → List ℕ → List EventLine →
    Option (List ℕ) → Option (List ℕ) → Result (Option (Bor (List ℕ))) LiveFault → Type 0
FeedsLine form live text piece lines first now (Ok None) =
    HaveArrived (text ++ piece) lines live.arriving × HasRun form live lines first now
FeedsLine form live text piece lines first now (Ok (Some rest)) =
    (line : EventLine) × TakesOne text piece lines line rest.now live.arriving ×
    HasRun form live (lines ++ line ∷ []) first now
FeedsLine form live text piece lines first now (Err (Events fault)) =
    StopsAfter (text ++ piece) lines fault × HasRun form live lines first now
FeedsLine form live text piece lines first now (Err Read) = ⊥
FeedsLine form live text piece lines first now (Err (Write fault)) =
    IsBrokenLive form live.feeds live.job (text ++ piece) first now

-- the sink's count of failures rose if a write failed, and is unchanged otherwise
abbrev pub FailsLive : {A : Type 0} → Result A LiveFault → ℕ → ℕ → Type 0
FailsLive (Ok done) old new = new ≡ old
FailsLive (Err (Events fault)) old new = new ≡ old
FailsLive (Err Read) old new = new ≡ old
FailsLive (Err (Write fault)) old new = Rises old new

-- ---- events from a source

-- What one turn of a run over a source makes of the bytes that are read and not fed yet, after a
-- text of these lines:
-- it fed one line, whose result was written, or all bytes, which complete no line;
-- or it fed nothing, since the source has ended;
-- or a line isn't an event, or lacks its line feed at the end; or the source failed, or a write.
abbrev pub Turns : LiveForm → LiveData → List ℕ → List ℕ → List EventLine → List ℕ →
    Option (List ℕ) → Option (List ℕ) → Result Bool LiveFault → Type 0
Turns form live text piece lines left first now (Ok true) =
    ((line : EventLine) × TakesOne text piece lines line left live.arriving ×
    HasRun form live (lines ++ line ∷ []) first now) ⊎
    ((left ≡ []) × HaveArrived (text ++ piece) lines live.arriving × HasRun form live lines first now)
Turns form live text piece lines left first now (Ok false) =
    (piece ≡ []) × Ends text lines (Ok tt) × HasRun form live lines first now
Turns form live text piece lines left first now (Err (Events fault)) =
    (StopsAfter (text ++ piece) lines fault ⊎ ((piece ≡ []) × Ends text lines (Err fault))) ×
    HasRun form live lines first now
Turns form live text piece lines left first now (Err Read) =
    (piece ≡ []) × HaveArrived text lines live.arriving × HasRun form live lines first now
Turns form live text piece lines left first now (Err (Write fault)) =
    IsBrokenLive form live.feeds live.job (text ++ piece) first now

-- It reads only where no byte waits to be fed.
pub record TakesTurn (form : LiveForm) (live : LiveData) (text waiting : List ℕ)
    (lines : List EventLine) (left : List ℕ) (source rest first now : Option (List ℕ))
    (result : Result Bool LiveFault) : Type 0 where
  pub read : List ℕ
  pub reads : Consumes source rest read
  pub none_waits : (waiting ≡ []) ⊎ (read ≡ [])
  pub turns : Turns form live text (waiting ++ read) lines left first now result

-- the bytes that were read and not fed yet, after a reading that returns whether there are any
pub record Fills (old new : List ℕ) (source rest : Option (List ℕ)) (result : Result Bool DeviceFault) :
    Type 0 where
  pub read : List ℕ
  pub reads : Consumes source rest read
  pub none_waits : (old ≡ []) ⊎ (read ≡ [])
  pub are : new ≡ old ++ read
  pub some : MatchResult result (λ more. MatchBool more (0 < length new) (new ≡ []))
      (λ fault. new ≡ [])

-- The result of reading a source: it ended after the last line; or a line of it isn't an event, or
-- lacks its line feed at the end; or the source failed; or a write failed.
abbrev pub LiveEnds : LiveForm → LiveData → List ℕ → Option (List ℕ) → Option (List ℕ) →
    Result (Unit {0}) LiveFault → Type 0
LiveEnds form live text first now (Ok done) =
    (lines : List EventLine) × HasRun form live lines first now × Ends text lines (Ok done)
LiveEnds form live text first now (Err (Events fault)) =
    IsStopped form live text first now fault ⊎
    ((lines : List EventLine) × HasRun form live lines first now × Ends text lines (Err fault))
LiveEnds form live text first now (Err Read) = IsLive form live text first now
LiveEnds form live text first now (Err (Write fault)) = IsBrokenLive form live.feeds live.job text first now

-- this text was read from the source, with this result
pub record LivesOn (form : LiveForm) (live : LiveData) (source rest first now : Option (List ℕ))
    (result : Result (Unit {0}) LiveFault) : Type 0 where
  pub text : List ℕ
  pub read : Consumes source rest text
  pub ends : LiveEnds form live text first now result

-- the text that was fed so far; these bytes are read and not fed yet
pub record LivesSoFar (form : LiveForm) (live : LiveData) (waiting : List ℕ)
    (source rest first now : Option (List ℕ)) : Type 0 where
  pub text : List ℕ
  pub read : Consumes source rest (text ++ waiting)
  pub is_live : IsLive form live text first now

-- the source's count of failures rose if it failed, and is unchanged otherwise
abbrev pub FailsByReading : {A : Type 0} → Result A LiveFault → ℕ → ℕ → Type 0
FailsByReading (Ok done) old new = new ≡ old
FailsByReading (Err (Events fault)) old new = new ≡ old
FailsByReading (Err Read) old new = Rises old new
FailsByReading (Err (Write fault)) old new = new ≡ old

-- ---- the end at rest

-- a hold, and then ticks, as lines that arrive
abbrev pub braking : ℕ → List EventLine
braking ticks =
    record { event = Hold; times = 1 } ∷ replicate ticks (record { event = Tick; times = 1 })

-- a machine in this state is stopped by these, or by none if it is at rest
abbrev pub stopping : State → ℕ → List EventLine
stopping s ticks = if s.rate == 0 then [] else braking ticks

-- The machine was stopped after these lines, which led to this state. It is at rest, it braked by
-- at least the least change in each tick, and its run is that over these lines and the stopping ones.
pub record ComesToRest (form : LiveForm) (s : State) (live : LiveData) (lines : List EventLine)
    (first now : Option (List ℕ)) : Type 0 where
  pub ticks : ℕ
  pub has_run : HasRun form live (lines ++ stopping s ticks) first now
  pub at_rest : live.state.rate ≡ 0
  pub brief : ticks * least_change live.job < s.rate + least_change live.job

-- a write failed while it was stopped
pub record IsCutStop (form : LiveForm) (s : State) (live : LiveData) (lines : List EventLine)
    (first now : Option (List ℕ)) : Type 0 where
  pub ticks : ℕ
  pub cut : IsCutRun form live.feeds live.job (lines ++ stopping s ticks) first now

abbrev pub is_write_fault : Result (Unit {0}) LiveFault → Bool
is_write_fault (Ok done) = false
is_write_fault (Err (Events fault)) = false
is_write_fault (Err Read) = false
is_write_fault (Err (Write fault)) = true

-- After the end of the input, with this result, the machine was stopped, and the result stays; or a
-- write failed meanwhile. After a write that failed before, nothing follows.
abbrev pub RestsAfter : LiveForm → LiveData → LiveData → Option (List ℕ) → Option (List ℕ) →
    Option (List ℕ) → Result (Unit {0}) LiveFault → Result (Unit {0}) LiveFault → Type 0
RestsAfter form before live first mid now ended result = MatchBool (is_write_fault ended)
    ((result ≡ ended) × (live ≡ before) × (now ≡ mid))
    ((lines : List EventLine) → HasRun form before lines first mid →
    ((result ≡ ended) × ComesToRest form before.state live lines first now) ⊎
    ((is_write_fault result ≡ true) × IsCutStop form before.state live lines first now))

-- A source was read, with the result of `LivesOn`, and then the machine was stopped.
pub record LivesToRest (form : LiveForm) (live : LiveData) (source rest first now : Option (List ℕ))
    (result : Result (Unit {0}) LiveFault) : Type 0 where
  pub before : LiveData
  pub mid : Option (List ℕ)
  pub ended : Result (Unit {0}) LiveFault
  pub lives : LivesOn form before source rest first mid ended
  pub rests : RestsAfter form before live first mid now ended result

-- the source's count of failures, where the machine was stopped after it failed and a write may
-- have failed then
abbrev pub FailsBeforeRest : Result (Unit {0}) LiveFault → ℕ → ℕ → Type 0
FailsBeforeRest (Ok done) old new = new ≡ old
FailsBeforeRest (Err (Events fault)) old new = new ≡ old
FailsBeforeRest (Err Read) old new = Rises old new
FailsBeforeRest (Err (Write fault)) old new = (new ≡ old) ⊎ Rises old new
