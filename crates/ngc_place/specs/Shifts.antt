-- A program whose work origin is shifted: the motions whose ends move with the origin, and those
-- that the machine fixes (G28, G30, G53). Our own.
use Rattle.std.specs.Prelude.{◌≡◌, ℕ, ◌≤◌, ℤ, pos, unsigned_abs, List, [], ◌∷◌, Bool, true, false}
use Rattle.ngc_fixed_length.specs.Places.{plus, shifted as moved, in_plane}
use Rattle.ngc_fixed_length.specs.declared.points.GridBox.{GridBox}
use Rattle.ngc_fixed_length.specs.declared.points.Point3.{Point3}
use Rattle.ngc_fixed_length.specs.declared.points.StepPos.{StepPos}
use Rattle.ngc_arc_geometry.specs.Shape.{ArcShape}
use Rattle.ngc_collision.specs.Body.{nanometres_of}
use Rattle.ngc_commands.specs.declared.command.Action.{Action}
use Rattle.ngc_commands.specs.declared.command.Action.TheVariants.{Move}
use Rattle.ngc_commands.specs.declared.command.Command.{Command}
use Rattle.ngc_commands.specs.declared.movement.Way.{Way}
use Rattle.ngc_commands.specs.declared.movement.Way.TheVariants.{Line, Arc}
use Rattle.ngc_commands.specs.Movement.{actions_of}
use Rattle.ngc_place.specs.declared.axis.Axis.{Axis}
use Rattle.ngc_place.specs.declared.axis.Axis.TheVariants.{X, Y, Z}

-- a number of steps along one axis
abbrev pub along : Axis → ℤ → StepPos
along X n = record { x = n; y = pos 0; z = pos 0 }
along Y n = record { x = pos 0; y = n; z = pos 0 }
along Z n = record { x = pos 0; y = pos 0; z = n }

-- the greatest shift of an origin along each axis, in steps: 2,000 mm at the finest step
abbrev pub SHIFT_LIMIT : ℕ
SHIFT_LIMIT = 4000000

pub record IsShift (n : StepPos) : Type 0 where
  pub x : unsigned_abs n.x ≤ SHIFT_LIMIT
  pub y : unsigned_abs n.y ≤ SHIFT_LIMIT
  pub z : unsigned_abs n.z ≤ SHIFT_LIMIT

-- the shifts of a box are in range
pub record AreShifts (b : GridBox) : Type 0 where
  pub low : IsShift b.low
  pub high : IsShift b.high

-- the shifts along one axis from one to another
abbrev pub shifts_along : Axis → ℤ → ℤ → GridBox
shifts_along axis from to = record { low = along axis from; high = along axis to }

-- a point that moves with the origin or not
abbrev pub shifted : ℤ → StepPos → Bool → Point3 → Point3
shifted step n true p = plus p (nanometres_of step n)
shifted step n false p = p

-- an arc, both of whose ends move
abbrev pub arc_shifted : ℤ → StepPos → Bool → ArcShape → ArcShape
arc_shifted step n true a = record {
  plane = a.plane;
  turn = a.turn;
  start = plus a.start (nanometres_of step n);
  end = plus a.end (nanometres_of step n);
  centre = moved a.centre (in_plane a.plane (nanometres_of step n));
}
arc_shifted step n false a = a

-- a path, by whether its start and its end move
abbrev pub way_shifted : ℤ → StepPos → Bool → Bool → Way → Way
way_shifted step n start end (Line p q) = Line (shifted step n start p) (shifted step n end q)
way_shifted step n start end (Arc a) = Arc (arc_shifted step n end a)

-- whether the reached point moves, after an action whose end moves if it is a motion
abbrev pub end_moves : Bool → Bool → Action → Bool
end_moves start end (Move m) = end
end_moves start end _ = start

abbrev pub action_shifted : ℤ → StepPos → Bool → Bool → Action → Action
action_shifted step n start end (Move m) =
    Move (record { way = way_shifted step n start end m.way; pace = m.pace; stop = m.stop })
action_shifted step n start end action = action

-- Actions, each with a mark that states whether its end moves if it is a motion. A motion's start
-- moves as the end of the motion before it does.
abbrev pub actions_shifted : ℤ → StepPos → Bool → List Bool → List Action → List Action
actions_shifted step n start moving [] = []
actions_shifted step n start [] (action ∷ actions) = action ∷ actions
actions_shifted step n start (end ∷ moving) (action ∷ actions) =
    action_shifted step n start end action
    ∷ actions_shifted step n (end_moves start end action) moving actions

-- Other commands are these with the origin shifted, apart from the lines that they come from. At
-- first the axes are at the machine's start point, which doesn't move.
abbrev pub AreShifted : ℤ → StepPos → List Bool → List Command → List Command → Type 0
AreShifted step n moving commands others =
    actions_of others ≡ actions_shifted step n false moving (actions_of commands)
