-- Safety of the positions that motors command while a path goes from grid point to grid point. Our
-- own. The margins are those of ngc_margins: fixtures larger on every side, travel limits nearer.
use Rattle.std.specs.Prelude.{◌≡◌, ◌⊎◌, ℤ, pos, ◌+ℤ◌, ◌*ℤ◌, ◌≤ℤ◌, List, [], ◌∷◌, Option, IsTrue, ◌&&◌}
use Rattle.std.specs.List.{list_all}
use Rattle.ngc_fixed_length.specs.declared.points.Point3.{Point3}
use Rattle.ngc_fixed_length.specs.declared.points.StepPos.{StepPos}
use Rattle.ngc_machine_files.specs.Machine.{MachineFile, motors_of}
use Rattle.ngc_machine_files.specs.declared.tools.Tool.{Tool}
use Rattle.ngc_collision.specs.Body.{IsSafe, are_apart, bodies, is_below}
use Rattle.ngc_events.specs.declared.event.Event.{Event}
use Rattle.ngc_machine_model.specs.State.{Job, State, opening}
use Rattle.ngc_machine_model.specs.Step.{Outcome}
use Rattle.ngc_machine_model.specs.Run.{Run}
use Rattle.ngc_machine_model.specs.Headline.{RunsSafely}
use Rattle.ngc_margins.specs.Margins.{with_margins}
use Rattle.ngc_motors.specs.Counts.{AreMotors, commanded_high, commanded_low, ends_at_steps, is_grid_step}
use Rattle.ngc_motors.specs.declared.step.MotorStep.{MotorStep}

-- The machine is somewhere from the first of two points in nanometres up to the second: all of it is
-- within the travel limits, and the tool's body over it is clear of every fixture.
pub record IsSafePlace (machine : MachineFile) (tool : Option Tool) (from to : Point3) : Type 0 where
  pub inside : IsTrue (is_below machine.low from && is_below to machine.high)
  pub clear : IsTrue
      (list_all (λ f. list_all (are_apart f) (bodies tool (record { low = from; high = to })))
      machine.fixtures)

-- a motor's step is at most twice the margin to fixtures, and the travel of its axis ends at whole
-- steps of it
pub record IsHeldOff (margin : ℤ) (m : MotorStep) (low high : ℤ) : Type 0 where
  pub half : pos m.nanometres ≤ℤ ((margin +ℤ margin) *ℤ pos m.steps)
  pub ends : IsTrue (ends_at_steps m low high)

-- or its step is the grid's, so that it stands at the path's grid points
abbrev pub FitsAxis : ℤ → ℤ → MotorStep → ℤ → ℤ → Type 0
FitsAxis grid margin m low high = IsTrue (is_grid_step grid m) ⊎ IsHeldOff margin m low high

-- a machine whose margins and travel are fit for its motors
pub record FitsMotors (m : MachineFile) : Type 0 where
  pub are : AreMotors (motors_of m)
  pub margin : pos 0 ≤ℤ m.margins.fixtures
  pub travel_margin : pos 0 ≤ℤ m.margins.travel
  pub x : FitsAxis m.step m.margins.fixtures m.motor_steps.x m.low.x m.high.x
  pub y : FitsAxis m.step m.margins.fixtures m.motor_steps.y m.low.y m.high.y
  pub z : FitsAxis m.step m.margins.fixtures m.motor_steps.z m.low.z m.high.z

-- Where the path is safe with the margins, the commanded position is safe without them. That position
-- is no whole number of nanometres if a motor's step isn't, and then it is between two that are.
abbrev pub CommandedIsSafe : Type 0
CommandedIsSafe = (machine : MachineFile) (tool : Option Tool) (p : StepPos) → FitsMotors machine →
    IsSafe (with_margins machine) tool p →
    IsSafePlace machine tool (commanded_low (motors_of machine) p) (commanded_high (motors_of machine) p)

-- ---- runs

abbrev pub AreCommandedSafe : MachineFile → List State → Type 0
AreCommandedSafe machine [] = Unit {0}
AreCommandedSafe machine (s ∷ states) =
    IsSafePlace machine s.tool (commanded_low (motors_of machine) s.position)
    (commanded_high (motors_of machine) s.position) × AreCommandedSafe machine states

-- and so in each state of a run, if the checker accepted the program with the margins
abbrev pub CommandedRunsSafely : Type 0
CommandedRunsSafely = (job : Job) (machine : MachineFile) → job.machine ≡ with_margins machine →
    FitsMotors machine → RunsSafely job →
    (events : List Event) (outcomes : List Outcome) (states : List State) →
    Run job (opening job.machine) events outcomes states →
    AreCommandedSafe machine (opening job.machine ∷ states)
