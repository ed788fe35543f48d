-- The holes that a program drills. Our own.
use Rattle.std.specs.Prelude.{List, [], ◌∷◌, ◌++◌, Option, Some, None, Bool, true, false, ◌&&◌}
use Rattle.std.specs.Prelude.{int_lt, if◌then◌else◌}
use Rattle.std.specs.Ordering.{int_eq}
use Rattle.ngc_commands.specs.Movement.{start_of, end_of}
use Rattle.ngc_commands.specs.declared.command.Action.{Action}
use Rattle.ngc_commands.specs.declared.command.Action.TheVariants.{Move, Mount}
use Rattle.ngc_commands.specs.declared.command.Command.{Command}
use Rattle.ngc_commands.specs.declared.movement.Motion.{Motion}
use Rattle.ngc_commands.specs.declared.movement.Pace.{Pace}
use Rattle.ngc_commands.specs.declared.movement.Pace.TheVariants as paces
use Rattle.ngc_commands.specs.declared.movement.Way.{Way}
use Rattle.ngc_commands.specs.declared.movement.Way.TheVariants.{Line, Arc}
use Rattle.ngc_picture_shapes.specs.Tools.{eye_of}
use Rattle.ngc_picture_shapes.specs.Views.{tip_spot}
use Rattle.ngc_picture_shapes.specs.declared.eye.Eye.{Eye}
use Rattle.ngc_drawing.specs.declared.holes.Drilling.{Drilling}
use Rattle.ngc_drawing.specs.declared.holes.Plunge.{Plunge}
use Rattle.ngc_picture_shapes.specs.declared.shape.Mark.TheVariants as marks
use Rattle.ngc_picture_shapes.specs.declared.shape.Shape.{Shape}
use Rattle.ngc_picture_shapes.specs.declared.shape.Shape.TheVariants as shapes
use Rattle.ngc_picture_shapes.specs.declared.view.View.{View}

-- straight up or down
abbrev pub is_upright : Way → Bool
is_upright (Line start end) = int_eq start.x end.x && int_eq start.y end.y
is_upright (Arc arc) = false

abbrev pub is_feed : Pace → Bool
is_feed paces.Rapid = false
is_feed (paces.Feed feed) = true

-- a feed that goes down
abbrev pub goes_down : Motion → Bool
goes_down m = is_feed m.pace && int_lt (end_of m.way).z (start_of m.way).z

-- a plunge is the lowest point that feeds have gone straight down to since the axes last moved
-- aside, and whether they are above it now; this is the plunge after one more motion straight up or
-- down
abbrev pub begun : Motion → Option Plunge
begun m = if goes_down m then Some (record { bottom = end_of m.way; is_out = false }) else None

abbrev pub deepened : Motion → Plunge → Plunge
deepened m p =
    if goes_down m && int_lt (end_of m.way).z p.bottom.z
    then record { bottom = end_of m.way; is_out = false }
    else record { bottom = p.bottom; is_out = int_lt p.bottom.z (end_of m.way).z }

abbrev pub plunged : Motion → Option Plunge → Option Plunge
plunged m None = begun m
plunged m (Some p) = Some (deepened m p)

-- after an action; a motion aside and a tool change end a plunge
abbrev pub drilled : Drilling → Action → Drilling
drilled d (Move m) =
    record { eye = d.eye; plunge = if is_upright m.way then plunged m d.plunge else None }
drilled d (Mount tool) = record { eye = eye_of d.eye.view tool; plunge = None }
drilled d _ = d

-- a plunge is a hole if the axes have moved up again: a mark where the tip was at its lowest
abbrev pub hole : Eye → Option Plunge → List Shape
hole eye None = []
hole eye (Some p) = if p.is_out then shapes.Mark marks.Hole (tip_spot eye p.bottom) ∷ [] else []

-- the hole that an action ends
abbrev pub ended : Drilling → Action → List Shape
ended d (Move m) = if is_upright m.way then [] else hole d.eye d.plunge
ended d (Mount tool) = hole d.eye d.plunge
ended d _ = []

-- all holes, in order
abbrev pub holes_from : Drilling → List Command → List Shape
holes_from d [] = hole d.eye d.plunge
holes_from d (c ∷ cs) = ended d c.action ++ holes_from (drilled d c.action) cs

-- without a tool at first
abbrev pub holes : View → List Command → List Shape
holes view commands = holes_from (record { eye = eye_of view None; plunge = None }) commands
