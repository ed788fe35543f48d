-- The definition of a safe run of the machine. Our own.
use Rattle.std.specs.Prelude.{◌≡◌, ℕ, ◌+◌, ◌≤◌, List, [], ◌∷◌, ◌++◌, Some, None, Ok, Contains}
use Rattle.ngc_fixed_length.specs.declared.points.StepPos.{StepPos}
use Rattle.ngc_fixed_length.specs.Grid.{grid}
use Rattle.ngc_machine_files.specs.Machine.{MachineFile}
use Rattle.ngc_commands.specs.Movement.{actions_of, ways_of}
use Rattle.ngc_commands.specs.ProgramPath.{IsPathOfAll}
use Rattle.ngc_collision.specs.Body.{IsSafe}
use Rattle.ngc_planner.specs.Pulses.{KeepsPulseRules}
use Rattle.ngc_events.specs.declared.event.Event.{Event}
use Rattle.ngc_events.specs.declared.event.Event.TheVariants.{Load, Tick, Hold, Resume, Override}
use Rattle.ngc_events.specs.declared.event.Event.TheVariants.{StopSwitch, Start}
use Rattle.ngc_events.specs.declared.reply.Ending.TheVariants.{End}
use Rattle.ngc_events.specs.declared.reply.Reply.TheVariants.{Ticked}
use Rattle.ngc_machine_model.specs.State.{Job, Queued, State, opening}
use Rattle.ngc_machine_model.specs.RateRules.{KeepsRateRules}
use Rattle.ngc_machine_model.specs.Step.{Outcome}
use Rattle.ngc_machine_model.specs.Run.{positions, pulses}

-- in each of these states the position is within travel, and the tool mounted then is clear of
-- every fixture
abbrev pub AreSafe : MachineFile → List State → Type 0
AreSafe machine [] = Unit {0}
AreSafe machine (s ∷ states) = IsSafe machine s.tool s.position × AreSafe machine states

-- a tick's rate: on the head it keeps the rules, and without one it is 0
abbrev pub TickKeeps : Job → List Queued → State → ℕ → Type 0
TickKeeps job [] old v = (v ≡ 0) × (old.rate ≤ old.change)
TickKeeps job (l ∷ ls) old v = KeepsRateRules job l ls old v

-- each tick keeps the rules of rates, and no other event changes the rate
abbrev pub EventKeeps : Job → State → Event → State → Type 0
EventKeeps job old Tick new = TickKeeps job old.ring old new.rate
EventKeeps job old Load new = new.rate ≡ old.rate
EventKeeps job old Hold new = new.rate ≡ old.rate
EventKeeps job old Resume new = new.rate ≡ old.rate
EventKeeps job old (Override n) new = new.rate ≡ old.rate
EventKeeps job old (StopSwitch on) new = new.rate ≡ old.rate
EventKeeps job old Start new = new.rate ≡ old.rate

-- and none changes the rate by more than the machine's change
pub record IsNear (machine : MachineFile) (old new : ℕ) : Type 0 where
  pub faster : new ≤ old + machine.change
  pub slower : old ≤ new + machine.change

abbrev pub KeepRates : Job → State → List Event → List State → Type 0
KeepRates job old [] states = Unit {0}
KeepRates job old (e ∷ es) [] = Unit {0}
KeepRates job old (e ∷ es) (new ∷ states) =
    EventKeeps job old e new × IsNear job.machine old.rate new.rate × KeepRates job new es states

abbrev pub start_of_job : Job → StepPos
start_of_job job = grid job.machine.step job.machine.start

-- these points are a path of all the commands' motions, and these begin one
abbrev pub AreWholePath : Job → List StepPos → Type 0
AreWholePath job points =
    IsPathOfAll job.machine.step (start_of_job job) (ways_of (actions_of job.commands)) points

abbrev pub BeginPath : Job → List StepPos → Type 0
BeginPath job points = (later : List StepPos) × AreWholePath job (points ++ later)

-- The headline's statement about a run from the opening state.
pub record IsSafeRun (job : Job) (events : List Event) (outcomes : List Outcome)
    (states : List State) : Type 0 where
  pub safe : AreSafe job.machine (opening job.machine ∷ states)
  pub rates : KeepRates job (opening job.machine) events states
  pub pulse_rules : KeepsPulseRules job.machine (pulses (start_of_job job) events states)
  -- the positions that are commanded begin a path of the program
  pub way : BeginPath job (start_of_job job ∷ positions outcomes)
  -- and the end is reported only after the whole path was commanded
  pub ended : Contains outcomes (Ok (Ticked None (Some End))) →
      AreWholePath job (start_of_job job ∷ positions outcomes)
