-- The size of a sheet. Our own.
use Rattle.std.specs.Prelude.{ℕ, ◌+◌, ◌*◌, ℤ, pos, ◌+ℤ◌, ◌-ℤ◌, ◌*ℤ◌, neg_ℤ, int_div, List, [], ◌∷◌}
use Rattle.std.specs.Prelude.{Option, None, Bool, ◌&&◌, ◌||◌, int_lt, int_le, if◌then◌else◌}
use Rattle.std.specs.Int.{int_max}
use Rattle.ngc_machine_files.specs.Machine.{MachineFile}
use Rattle.ngc_machine_files.specs.declared.machine.Fixture.{Fixture}
use Rattle.ngc_machine_files.specs.declared.tools.Tool.{Tool}
use Rattle.ngc_commands.specs.declared.command.Action.{Action}
use Rattle.ngc_commands.specs.declared.command.Action.TheVariants.{Move}
use Rattle.ngc_commands.specs.declared.command.Command.{Command}
use Rattle.ngc_commands.specs.declared.movement.Way.{Way}
use Rattle.ngc_commands.specs.declared.movement.Way.TheVariants.{Line, Arc}
use Rattle.ngc_picture_shapes.specs.Arcs.{spots_seen}
use Rattle.ngc_picture_shapes.specs.Tools.{mounted, eye_of}
use Rattle.ngc_picture_shapes.specs.Views.{spot, tip_spot, rectangle, holding}
use Rattle.ngc_picture_shapes.specs.declared.eye.Eye.{Eye}
use Rattle.ngc_picture_shapes.specs.declared.look.Look.{Look}
use Rattle.ngc_picture_shapes.specs.declared.shape.Pane.{Pane}
use Rattle.ngc_picture_shapes.specs.declared.shape.Sheet.{Sheet}
use Rattle.ngc_picture_shapes.specs.declared.spot.Rectangle.{Rectangle}
use Rattle.ngc_picture_shapes.specs.declared.spot.Spot.{Spot}
use Rattle.ngc_picture_shapes.specs.declared.view.View.{View}

-- the rectangle of one spot
abbrev pub at : Spot → Rectangle
at p = record { low = p; high = p }

abbrev pub holding_all : Rectangle → List Spot → Rectangle
holding_all r [] = r
holding_all r (p ∷ ps) = holding_all (holding r p) ps

abbrev pub with_way : Eye → Rectangle → Way → Rectangle
with_way eye r (Line start end) = holding (holding r (tip_spot eye start)) (tip_spot eye end)
with_way eye r (Arc arc) = holding_all (holding r (tip_spot eye arc.start)) (spots_seen eye.view eye arc)

abbrev pub with_action : Eye → Rectangle → Action → Rectangle
with_action eye r (Move m) = with_way eye r m.way
with_action eye r _ = r

-- and with the path of commands, from where this tool is mounted
abbrev pub with_commands : View → Option Tool → Rectangle → List Command → Rectangle
with_commands view tool r [] = r
with_commands view tool r (c ∷ cs) =
    with_commands view (mounted tool c.action) (with_action (eye_of view tool) r c.action) cs

-- the smallest rectangle that holds two others
abbrev pub with_both : Rectangle → Rectangle → Rectangle
with_both r s = holding (holding r s.low) s.high

abbrev pub with_fixtures : View → Rectangle → List Fixture → Rectangle
with_fixtures view r [] = r
with_fixtures view r (f ∷ fs) =
    with_fixtures view (with_both r (rectangle view f.low f.high)) fs

-- the travel and the home positions
abbrev pub bench : View → MachineFile → Rectangle
bench view machine =
    holding (holding (rectangle view machine.low machine.high) (spot view machine.home28))
    (spot view machine.home30)

-- these, the fixtures and the path
abbrev pub whole : View → MachineFile → List Command → Rectangle
whole view machine commands =
    with_commands view None (with_fixtures view (bench view machine) machine.fixtures) commands

-- the place where the machine starts, the fixtures and the path
abbrev pub work : View → MachineFile → List Command → Rectangle
work view machine commands =
    with_commands view None (with_fixtures view (at (spot view machine.start)) machine.fixtures)
    commands

abbrev pub width_of : Rectangle → ℤ
width_of r = r.high.across -ℤ r.low.across

abbrev pub height_of : Rectangle → ℤ
height_of r = r.high.up -ℤ r.low.up

-- one length is more than three times another
abbrev pub is_far_longer : ℤ → ℤ → Bool
is_far_longer one other = int_lt (pos 3 *ℤ other) one

-- r is more than three times as wide or as high as s
abbrev pub is_far_larger : Rectangle → Rectangle → Bool
is_far_larger r s =
    is_far_longer (width_of r) (width_of s) || is_far_longer (height_of r) (height_of s)

-- the area that a picture shows: the whole, or the work if the travel is far larger
abbrev pub frame : Look → MachineFile → List Command → Rectangle
frame look machine commands =
    if look.whole then whole look.view machine commands
    else if is_far_larger (rectangle look.view machine.low machine.high)
    (work look.view machine commands)
    then work look.view machine commands else whole look.view machine commands

abbrev pub is_between : ℤ → ℤ → ℤ → Bool
is_between low z high = int_le low z && int_le z high

-- a spot of a rectangle, its edges included
abbrev pub is_in : Rectangle → Spot → Bool
is_in r p =
    is_between r.low.across p.across r.high.across && is_between r.low.up p.up r.high.up

-- a rectangle of another
abbrev pub is_within : Rectangle → Rectangle → Bool
is_within r s = is_in r s.low && is_in r s.high

-- a hundredth of the drawn area's size, and at least a tenth of a millimetre
abbrev pub unit_of : Rectangle → ℤ
unit_of r = int_max (pos 100)
    (int_div (int_max (width_of r) (height_of r)) (pos 100))

-- a sheet has space for the names of the axes at the left, and for the scale, two rows of text and
-- `rows` more below
abbrev pub sheet_width : Rectangle → ℤ
sheet_width r = int_max (width_of r) (pos 60 *ℤ unit_of r) +ℤ (pos 16 *ℤ unit_of r)

abbrev pub sheet_height : Rectangle → ℕ → ℤ
sheet_height r rows = height_of r +ℤ (pos (23 + 3 * rows) *ℤ unit_of r)

-- a small picture is enlarged: two, five, ten or twenty times
abbrev pub enlarged : ℤ → ℤ → ℤ
enlarged unit length =
    if int_lt unit (pos 200) then pos 20 *ℤ length
    else if int_lt unit (pos 400) then pos 10 *ℤ length
    else if int_lt unit (pos 1000) then pos 5 *ℤ length
    else if int_lt unit (pos 2000) then pos 2 *ℤ length else length

abbrev pub sheet : Rectangle → ℕ → Sheet
sheet r rows = record {
  left = r.low.across -ℤ (pos 8 *ℤ unit_of r);
  top = neg_ℤ r.high.up -ℤ (pos 5 *ℤ unit_of r);
  width = sheet_width r;
  height = sheet_height r rows;
  page_width = enlarged (unit_of r) (sheet_width r);
  page_height = enlarged (unit_of r) (sheet_height r rows);
}

-- a rectangle as a part of the sheet
abbrev pub pane : Rectangle → Pane
pane r = record {
  left = r.low.across;
  top = neg_ℤ r.high.up;
  width = width_of r;
  height = height_of r;
}
