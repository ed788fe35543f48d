-- The allowed rates of a tick on a motion, and its target rate. Our own.
use Rattle.std.specs.Prelude.{◌≡◌, ℕ, ◌*◌, ◌/◌, ◌≤◌, ◌↔◌, min, max, ◌==◌, unsigned_abs}
use Rattle.std.specs.Prelude.{List, Bool, true, false, if◌then◌else◌}
use Rattle.ngc_fixed_length.specs.Roots.{whole_root}
use Rattle.ngc_arc_geometry.specs.Radii.{inner_radius}
use Rattle.ngc_arc_geometry.specs.Shape.{ArcShape}
use Rattle.ngc_machine_files.specs.Machine.{MachineFile}
use Rattle.ngc_machine_files.specs.MachineRanges.{IsMachine}
use Rattle.ngc_machine_files.specs.declared.machine.ArcFeed.{ArcFeed}
use Rattle.ngc_machine_files.specs.declared.machine.ArcFeed.TheVariants as arc_feeds
use Rattle.ngc_commands.specs.declared.command.Action.{Action}
use Rattle.ngc_commands.specs.declared.command.Action.TheVariants.{Move}
use Rattle.ngc_commands.specs.declared.command.Command.{Command}
use Rattle.ngc_commands.specs.declared.movement.Motion.{Motion}
use Rattle.ngc_commands.specs.declared.movement.Way.{Way}
use Rattle.ngc_commands.specs.declared.movement.Way.TheVariants.{Line, Arc}
use Rattle.ngc_planner.specs.Components.{MayMoveAxes, axes_bound, change_of}
use Rattle.ngc_fixed_length.specs.Limits.{MILLION}
use Rattle.ngc_planner.specs.Caps.{cap_of}
use Rattle.ngc_planner.specs.Joints.{joint_at, joint_before}
use Rattle.ngc_planner.specs.Turns.{arc_turn}

-- on an arc v*v*step is at most its turn times the radius
abbrev pub MayTurnOn : MachineFile → Way → ℕ → Type 0
MayTurnOn machine (Line b e) v = Unit {0}
MayTurnOn machine (Arc a) v = v * v * unsigned_abs machine.step
    ≤ arc_turn machine a * max (inner_radius a) (unsigned_abs machine.step)

abbrev pub MayTurn : MachineFile → Action → ℕ → Type 0
MayTurn machine (Move m) v = MayTurnOn machine m.way v
MayTurn machine _ v = Unit {0}

-- the rates of a tick that travels on a motion of n path steps
pub record IsWithinBounds (machine : MachineFile) (action : Action) (n v : ℕ) : Type 0 where
  pub greatest : v ≤ machine.max_rate
  pub axes : MayMoveAxes machine action n v
  pub feed : v ≤ 2 * cap_of action n machine
  pub turns : MayTurn machine action v

-- the greatest of them
abbrev pub arc_rate : ℕ → ℕ → ArcShape → ℕ
arc_rate turn step a = whole_root (turn * max (inner_radius a) step / step)

abbrev pub turn_rate : MachineFile → Way → ℕ
turn_rate machine (Line b e) = MILLION
turn_rate machine (Arc a) = arc_rate (arc_turn machine a) (unsigned_abs machine.step) a

abbrev pub turn_bound : MachineFile → Action → ℕ
turn_bound machine (Move m) = turn_rate machine m.way
turn_bound machine _ = MILLION

-- the machine's greatest rate on the axes that a motion of n path steps may move
abbrev pub greatest_rate : MachineFile → Action → ℕ → ℕ
greatest_rate machine action n = min machine.max_rate (axes_bound machine action n)

abbrev pub bound_of : MachineFile → Action → ℕ → ℕ
bound_of machine action n = min (min (greatest_rate machine action n) (2 * cap_of action n machine))
    (turn_bound machine action)

-- a cap under an override in percent, at least 1 unless the override is 0
abbrev pub overridden : ℕ → ℕ → ℕ
overridden cap percent = if percent == 0 then 0 else max 1 (cap * percent / 100)

-- the target rate of a tick of a motion of n path steps, from a cap and the greatest rate that its
-- turn allows
abbrev pub aimed_at : MachineFile → Action → ℕ → ℕ → ℕ → ℕ → ℕ
aimed_at machine action n cap turn percent =
    min (min (overridden cap percent) (greatest_rate machine action n)) turn

-- the machine's turn holds at each place of an arc, and not only where it runs along an axis
abbrev pub is_turn_by_place : ArcFeed → Bool
is_turn_by_place arc_feeds.Off = false
is_turn_by_place arc_feeds.Feed = false
is_turn_by_place arc_feeds.FeedAndTurn = true

-- Of the greatest rate on an arc, what its turn allows where the arc runs diagonally: a path step is
-- a little less than 1.415 steps long there. It is raised to 1 if it is 0.
abbrev pub diagonal_rate : ℕ → ℕ
diagonal_rate rate = max 1 (rate * 1000 / 1415)

-- the greatest target that the turn allows at every place of a motion
abbrev pub steady_turn_on : MachineFile → Way → ℕ
steady_turn_on machine (Line b e) = MILLION
steady_turn_on machine (Arc a) =
    if is_turn_by_place machine.arc_feed
    then diagonal_rate (turn_rate machine (Arc a)) else turn_rate machine (Arc a)

abbrev pub steady_turn : MachineFile → Action → ℕ
steady_turn machine (Move m) = steady_turn_on machine m.way
steady_turn machine _ = MILLION

-- from the cap of a motion of n path steps
abbrev pub target_at : MachineFile → Action → ℕ → ℕ → ℕ
target_at machine action n percent =
    aimed_at machine action n (cap_of action n machine) (steady_turn machine action) percent

-- the least rate of each tick of a motion of n path steps, if its end allows it
abbrev pub least_travel : MachineFile → Action → ℕ → ℕ
least_travel machine action n =
    min (min (change_of machine action n) machine.corner) (target_at machine action n 1)

-- ---- properties of every machine and action

abbrev pub IsMotion : Action → Type 0
IsMotion action = (m : Motion) × (action ≡ Move m)

-- the bound is the greatest of the rates that a tick may have
abbrev pub IsGreatestBound : Type 0
IsGreatestBound =
    (machine : MachineFile) (action : Action) (n v : ℕ) → IsMachine machine →
    (v ≤ bound_of machine action n) ↔ IsWithinBounds machine action n v

-- this rate is at most the target under every override, and every bound, wherever the motion is
-- among commands
pub record IsLeastTravel (machine : MachineFile) (action : Action) (commands : List Command)
    (k n percent : ℕ) : Type 0 where
  pub some : 1 ≤ least_travel machine action n
  pub change : least_travel machine action n ≤ change_of machine action n
  pub target : 1 ≤ percent → least_travel machine action n ≤ target_at machine action n percent
  pub bound : least_travel machine action n ≤ bound_of machine action n
  pub entry : least_travel machine action n ≤ joint_before machine commands k
  pub exit : least_travel machine action n ≤ joint_at machine commands k

abbrev pub MayTravelLeast : Type 0
MayTravelLeast =
    (machine : MachineFile) (action : Action) (commands : List Command) (k n percent : ℕ) →
    IsMachine machine → IsMotion action →
    IsLeastTravel machine action commands k n percent
