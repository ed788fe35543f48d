-- How the path of the mounted tool's tip is drawn. Our own.
use Rattle.std.specs.Prelude.{ℕ, ◌==◌, pos, List, [], ◌∷◌, ◌++◌, map, Option, Some, None, Bool}
use Rattle.std.specs.Prelude.{true, false, ◌&&◌, if◌then◌else◌}
use Rattle.std.specs.Ordering.{int_eq}
use Rattle.ngc_fixed_length.specs.Places.{height}
use Rattle.ngc_fixed_length.specs.declared.modes.Turn.{Turn}
use Rattle.ngc_fixed_length.specs.declared.modes.Turn.TheVariants.{Clockwise, Counterclockwise}
use Rattle.ngc_fixed_length.specs.declared.points.Point3.{Point3}
use Rattle.ngc_arc_geometry.specs.Shape.{ArcShape}
use Rattle.ngc_arc_geometry.specs.Radii.{outer_radius}
use Rattle.ngc_machine_files.specs.declared.tools.Tool.{Tool}
use Rattle.ngc_commands.specs.Movement.{start_of, end_of}
use Rattle.ngc_commands.specs.declared.command.Action.{Action}
use Rattle.ngc_commands.specs.declared.command.Action.TheVariants.{Move, Mount}
use Rattle.ngc_commands.specs.declared.command.Command.{Command}
use Rattle.ngc_commands.specs.declared.movement.Pace.{Pace}
use Rattle.ngc_commands.specs.declared.movement.Pace.TheVariants as paces
use Rattle.ngc_commands.specs.declared.movement.Way.{Way}
use Rattle.ngc_commands.specs.declared.movement.Way.TheVariants.{Line, Arc}
use Rattle.ngc_picture_shapes.specs.Arcs.{corner_spots}
use Rattle.ngc_picture_shapes.specs.Helices.{helix_points}
use Rattle.ngc_picture_shapes.specs.Tools.{rank_of, number_of, eye_of}
use Rattle.ngc_picture_shapes.specs.Views.{tip_spot, faces, is_same, micrometres}
use Rattle.ngc_picture_shapes.specs.declared.eye.Eye.{Eye}
use Rattle.ngc_picture_shapes.specs.declared.pen.Pen.{Pen}
use Rattle.ngc_picture_shapes.specs.declared.pen.Run.{Run}
use Rattle.ngc_picture_shapes.specs.declared.shape.Ink.{Ink}
use Rattle.ngc_picture_shapes.specs.declared.shape.Ink.TheVariants as inks
use Rattle.ngc_picture_shapes.specs.declared.shape.Shape.{Shape}
use Rattle.ngc_picture_shapes.specs.declared.shape.Shape.TheVariants as shapes
use Rattle.ngc_picture_shapes.specs.declared.spot.Spot.{Spot}
use Rattle.ngc_picture_shapes.specs.declared.view.View.{View}
use Rattle.ngc_picture_shapes.specs.declared.view.View.TheVariants.{Front, Iso}

-- a motion has the colour of the tool that is mounted then, and a traverse is dashed
abbrev pub ink_of : ℕ → Pace → Ink
ink_of rank paces.Rapid = inks.Traverse rank
ink_of rank (paces.Feed feed) = inks.Feed rank

abbrev pub is_same_ink : Ink → Ink → Bool
is_same_ink (inks.Feed m) (inks.Feed n) = m == n
is_same_ink (inks.Traverse m) (inks.Traverse n) = m == n
is_same_ink _ _ = false

-- a stroke continues the path that is drawn if it has the same ink and ends where the stroke
-- begins; otherwise it begins a path
abbrev pub lead : Option Run → Ink → Spot → List Shape
lead None ink from = shapes.Path ink from ∷ []
lead (Some run) ink from =
    if is_same_ink run.ink ink && is_same run.at from then []
    else shapes.PathEnd ∷ shapes.Path ink from ∷ []

-- an arc's direction, seen in a view that faces its plane: X and Z of the front turn in the other
-- direction than Z and X
abbrev pub is_seen_clockwise : View → Turn → Bool
is_seen_clockwise Front Clockwise = false
is_seen_clockwise Front Counterclockwise = true
is_seen_clockwise _ Clockwise = true
is_seen_clockwise _ Counterclockwise = false

-- an arc in quarters, from one extreme point to the next; seen from its side, a line to and fro;
-- and a helix, like every arc of the isometric view, point by point
abbrev pub round : View → ArcShape → Spot → Shape
round view arc to =
    shapes.Round (micrometres (pos (outer_radius arc))) (is_seen_clockwise view arc.turn) to

abbrev pub is_flat : ArcShape → Bool
is_flat arc = int_eq (height arc.plane arc.start) (height arc.plane arc.end)

-- an arc that is seen as a line, in a view that doesn't face its plane
abbrev pub is_seen_as_line : View → ArcShape → Bool
is_seen_as_line Iso arc = false
is_seen_as_line _ arc = is_flat arc

-- a line to a point
abbrev pub line_to : Eye → Point3 → Shape
line_to eye p = shapes.Line (tip_spot eye p)

abbrev pub arc_course : Eye → ArcShape → List Shape
arc_course eye arc =
    if faces eye.view arc.plane then map (round eye.view arc) (corner_spots eye arc)
    else (if is_seen_as_line eye.view arc then map shapes.Line (corner_spots eye arc)
    else map (line_to eye) (helix_points arc))

-- the path to a motion's end; a line within one spot is left out
abbrev pub course : Eye → Way → List Shape
course eye (Line start end) =
    if is_same (tip_spot eye start) (tip_spot eye end) then []
    else shapes.Line (tip_spot eye end) ∷ []
course eye (Arc arc) = arc_course eye arc

abbrev pub stroke : Eye → Option Run → Ink → Way → List Shape
stroke eye run ink way = lead run ink (tip_spot eye (start_of way)) ++ course eye way

abbrev pub strokes_of : Pen → Action → List Shape
strokes_of pen (Move m) = stroke pen.eye pen.run (ink_of pen.rank m.pace) m.way
strokes_of pen _ = []

-- the pen after an action
abbrev pub after : List (Option Tool) → Pen → Action → Pen
after used pen (Move m) =
    record {
      rank = pen.rank;
      eye = pen.eye;
      run = Some (record { ink = ink_of pen.rank m.pace; at = tip_spot pen.eye (end_of m.way) });
    }
after used pen (Mount tool) =
    record {
      rank = rank_of used (number_of tool);
      eye = eye_of pen.eye.view tool;
      run = pen.run;
    }
after used pen _ = pen

abbrev pub last_end : Option Run → List Shape
last_end None = []
last_end (Some run) = shapes.PathEnd ∷ []

-- all motions, in order
abbrev pub strokes_from : List (Option Tool) → Pen → List Command → List Shape
strokes_from used pen [] = last_end pen.run
strokes_from used pen (c ∷ cs) =
    strokes_of pen c.action ++ strokes_from used (after used pen c.action) cs

-- without a tool at first
abbrev pub strokes : View → List (Option Tool) → List Command → List Shape
strokes view used commands =
    strokes_from used (record { rank = rank_of used 0; eye = eye_of view None; run = None }) commands
