-- The meaning of a controller's fields, and their invariant. Our own.
use Rattle.std.specs.Prelude.{◌≡◌, ℕ, ◌+◌, ◌-◌, ◌/◌, ◌^◌, ◌≤◌, List, [], ◌∷◌, length, Option}
use Rattle.std.specs.Prelude.{nat_lt, Bool, true, if◌then◌else◌}
use Rattle.ngc_fixed_length.specs.declared.points.StepPos.{StepPos}
use Rattle.ngc_commands.specs.declared.command.Action.{Action}
use Rattle.ngc_commands.specs.declared.command.Action.TheVariants as actions
use Rattle.ngc_machine_files.specs.MachineRanges.{IsMachine}
use Rattle.ngc_machine_files.specs.declared.tools.Tool.{Tool}
use Rattle.ngc_fixed_length.specs.Limits.{MILLION}
use Rattle.ngc_planner.specs.Trail.{joints_before}
use Rattle.ngc_planner.specs.Ramp.{IsRest, next_rest}
use Rattle.ngc_machine_model.specs.State.{Job, State, Queued, path_steps, millionths}
use Rattle.ngc_machine_model.specs.Progress.{TravelsAtLeast}
use Rattle.ngc_machine_model.specs.Step.{Outcome, Travels}
use Rattle.ngc_controller.specs.declared.drive.Drive.{Drive}
use Rattle.ngc_controller.specs.declared.panel.Panel.{Panel}
use Rattle.ngc_controller.specs.Drive.{legs_of, last_flows_on, IsTarget}
use Rattle.ngc_controller.specs.Panel.{effective_at}
use Rattle.ngc_controller.specs.Ring.{RingData, IsMoving}

-- the distance travelled on the head, with this rest of the ramp's first leg: that leg is the
-- head's if it is a motion with path steps, and otherwise nothing is travelled
abbrev pub travelled_of : List Queued → ℕ → ℕ
travelled_of [] rest = 0
travelled_of (l ∷ ls) rest = if nat_lt 0 (path_steps l) then millionths l - rest else 0

abbrev pub state_of :
    {A : Type 0} → ℕ → RingData → Drive A → ℕ → StepPos → Option Tool → Panel → State
state_of done ring drive dwelt position tool panel = record {
  done = done;
  ring = ring.loaded;
  travelled = travelled_of ring.loaded drive.ramp.rest;
  dwelt = dwelt;
  position = position;
  rate = drive.ramp.rate;
  change = drive.ramp.last_change;
  tool = tool;
  percent = panel.percent;
  overrides = panel.overrides;
  held = panel.held;
  stopped = panel.stopped;
  stop_switch = panel.stop_switch;
}

-- more ticks than any dwell takes
abbrev pub DWELL_LIMIT : ℕ
DWELL_LIMIT = 2 ^ 100

-- the invariant of the fields: the ramp is on the head if that is a motion with path steps;
-- otherwise nothing travels, and nothing of the motions after the head is travelled; ring and ramp
-- have the capacity of the machine file
pub record IsInOrder {A : Type 0} (job : Job) (done : ℕ) (ring : RingData) (drive : Drive A)
    (dwelt : ℕ) (panel : Panel) : Type 0 where
  pub machine : IsMachine job.machine
  pub room : ring.room ≡ job.machine.ring
  pub places : drive.ramp.room ≡ job.machine.ring
  pub legs : (joined : Bool) × (drive.ramp.legs ≡ legs_of job done joined ring.loaded)
  pub left : IsRest drive.ramp.rest drive.ramp.legs
  pub slow : (IsMoving ring.loaded → ⊥) → drive.ramp.rate ≤ drive.ramp.last_change
  pub whole : (IsMoving ring.loaded → ⊥) → drive.ramp.rest ≡ next_rest 0 drive.ramp.legs
  pub joints : drive.joints
      ≡ joints_before job.machine job.commands (done + length ring.loaded)
  pub continues_travel : drive.continues_travel ≡ last_flows_on drive.continues_travel ring.loaded
  pub place : ring.place ≡ travelled_of ring.loaded drive.ramp.rest / MILLION
  pub target : IsTarget job.machine (effective_at panel) ring.loaded ring.place drive.target
  pub few : done + length ring.loaded ≤ length job.commands
  pub brief : dwelt ≤ DWELL_LIMIT
  pub still : panel.stopped ≡ true → drive.ramp.rate ≡ 0

-- ---- ticks, by the kind of the head

-- the head is a motion with path steps, and travels
abbrev pub TravelsOn : Job → List Queued → State → Outcome → State → Type 0
TravelsOn job [] old outcome new = ⊥
TravelsOn job (l ∷ ls) old outcome new =
    Travels job l ls old outcome new × TravelsAtLeast job (l ∷ ls) old new.rate

-- the head has this action, and no path step
abbrev pub IsServed : List Queued → Action → Type 0
IsServed [] action = ⊥
IsServed (l ∷ ls) action = (l.command.action ≡ action) × (path_steps l ≡ 0)

-- the panel after an action ends
abbrev pub panel_after : Action → Panel → Panel
panel_after (actions.Override on) p = record p { overrides = on }
panel_after actions.Stop p = record p { stopped = true }
panel_after actions.OptionalStop p = record p { stopped = p.stop_switch }
panel_after _ p = p

-- and the tool
abbrev pub tool_after : Action → Option Tool → Option Tool
tool_after (actions.Mount tool) t = tool
tool_after _ t = t
