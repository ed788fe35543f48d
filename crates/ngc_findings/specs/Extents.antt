-- The extent of a program. Our own.
use Rattle.std.specs.Prelude.{ℕ, ◌<◌, ℤ, pos, ◌+ℤ◌, ◌-ℤ◌, List, length, fold, map, flat_map, IsTrue}
use Rattle.std.specs.Prelude.{if◌then◌else◌}
use Rattle.std.specs.List.{All}
use Rattle.ngc_fixed_length.specs.Boxes.{IsIn, box_of, only, common_box, grid_above, grid_below}
use Rattle.ngc_fixed_length.specs.Boxes.{lesser_corner, greater_corner}
use Rattle.ngc_fixed_length.specs.Grid.{grid}
use Rattle.ngc_fixed_length.specs.Length.{IsStep}
use Rattle.ngc_fixed_length.specs.LinePath.{point}
use Rattle.ngc_fixed_length.specs.declared.points.GridBox.{GridBox}
use Rattle.ngc_fixed_length.specs.declared.points.StepPos.{StepPos}
use Rattle.ngc_arc_geometry.specs.CutArc.{cut_box, is_large}
use Rattle.ngc_arc_geometry.specs.Shape as shapes
use Rattle.ngc_arc_geometry.specs.Shape.{ArcShape}
use Rattle.ngc_arc_geometry.specs.Swept.{swept_box}
use Rattle.ngc_commands.specs.Movement.{actions_of, ways_of}
use Rattle.ngc_commands.specs.ProgramPath.{IsPathOf}
use Rattle.ngc_commands.specs.declared.command.Command.{Command}
use Rattle.ngc_commands.specs.declared.movement.Way.{Way}
use Rattle.ngc_commands.specs.declared.movement.Way.TheVariants.{Line, Arc}
use Rattle.ngc_collision.specs.Body.{is_in_travel}
use Rattle.ngc_certificate_text.specs.Certificate.{Entry}
use Rattle.ngc_certificate_text.specs.declared.piece.Piece.{Piece}
use Rattle.ngc_machine_files.specs.Machine.{MachineFile}

-- the least box that holds two boxes
abbrev pub joint_box : GridBox → GridBox → GridBox
joint_box a b = record { low = lesser_corner a.low b.low; high = greater_corner a.high b.high }

-- the box of a motion: of a line, that of its grid ends; of an arc, its swept box
abbrev pub reach : ℤ → Way → GridBox
reach step (Line start end) = box_of (grid step start) (grid step end)
reach step (Arc arc) = swept_box step arc

-- one step more and one step less on each axis
abbrev pub next_corner : StepPos → StepPos
next_corner p = record { x = p.x +ℤ pos 1; y = p.y +ℤ pos 1; z = p.z +ℤ pos 1 }

abbrev pub previous_corner : StepPos → StepPos
previous_corner p = record { x = p.x -ℤ pos 1; y = p.y -ℤ pos 1; z = p.z -ℤ pos 1 }

-- a box with one step less on each side
abbrev pub shrunk : GridBox → GridBox
shrunk b = record { low = next_corner b.low; high = previous_corner b.high }

-- the box of all pieces of an arc that is cut at each quadrant point, a step inside the arc: the
-- same as in one piece at its ends, and a step less at the quadrant points
abbrev pub cut_reach : ℤ → ArcShape → GridBox
cut_reach step a = joint_box (shrunk (swept_box step a))
    (joint_box (cut_box step a (shapes.start_of a) (shapes.start_of a))
    (cut_box step a (shapes.end_of a) (shapes.end_of a)))

-- the box of all pieces of a motion, if a large arc is cut like this; small arcs aren't cut
abbrev pub reach_in_pieces : ℤ → Way → GridBox
reach_in_pieces step (Line start end) = reach step (Line start end)
reach_in_pieces step (Arc a) = if is_large step a then cut_reach step a else swept_box step a

-- the least box that holds the start point and the box of each motion
abbrev pub extent : MachineFile → List Command → GridBox
extent machine commands = fold joint_box (only (grid machine.step machine.start))
    (map (reach machine.step) (ways_of (actions_of commands)))

-- the extent contains each point of each path that a motion may take
abbrev pub ExtentHoldsPaths : Type 0
ExtentHoldsPaths =
    (machine : MachineFile) (commands : List Command) → All (λ w. (path : List StepPos) (k : ℕ) →
    IsPathOf machine.step w path → k < length path →
    IsIn (extent machine commands) (point path k)) (ways_of (actions_of commands))

-- the extent contains the start point
abbrev pub ExtentHoldsStart : Type 0
ExtentHoldsStart = (machine : MachineFile) (commands : List Command) →
    IsIn (extent machine commands) (grid machine.step machine.start)

-- ---- with a certificate

-- the boxes of a motion's pieces
abbrev pub boxes_of : Entry → List GridBox
boxes_of e = map (λ p. p.bounds) e.pieces

-- the least box that holds the start point and the box of each piece
abbrev pub fit_extent : MachineFile → List Entry → GridBox
fit_extent machine motions =
    fold joint_box (only (grid machine.step machine.start)) (flat_map boxes_of motions)

-- the extent contains each point of the box of each piece
abbrev pub FitExtentHoldsPieces : Type 0
FitExtentHoldsPieces =
    (machine : MachineFile) (motions : List Entry) → All (λ (e : Entry). All (λ (p : Piece).
    (q : StepPos) → IsIn p.bounds q → IsIn (fit_extent machine motions) q) e.pieces) motions

-- the extent contains the start point
abbrev pub FitExtentHoldsStart : Type 0
FitExtentHoldsStart = (machine : MachineFile) (motions : List Entry) →
    IsIn (fit_extent machine motions) (grid machine.step machine.start)

-- ---- within the travel

-- the grid points within the travel limits
abbrev pub travel_box : MachineFile → GridBox
travel_box m = record {
  low = record {
    x = grid_above m.step m.low.x;
    y = grid_above m.step m.low.y;
    z = grid_above m.step m.low.z;
  };
  high = record {
    x = grid_below m.step m.high.x;
    y = grid_below m.step m.high.y;
    z = grid_below m.step m.high.z;
  };
}

-- the part of the extent that lies within the travel
abbrev pub extent_in_travel : MachineFile → List Command → GridBox
extent_in_travel machine commands = common_box (extent machine commands) (travel_box machine)

-- it contains each point of the extent that lies within the travel limits
abbrev pub ExtentInTravelHolds : Type 0
ExtentInTravelHolds = (machine : MachineFile) (commands : List Command) (p : StepPos) →
    IsStep machine.step → IsIn (extent machine commands) p →
    IsTrue (is_in_travel machine (only p)) → IsIn (extent_in_travel machine commands) p
