-- A machine file, line by line.
use Rattle.std.specs.Prelude.{ℕ, ℤ, List, [], ◌++◌, codes, decimal, Bool, if◌then◌else◌}
use Rattle.ngc_text.specs.Millimetres.{size_text}
use Rattle.ngc_machine_maker.specs.declared.figures.Figures.{Figures}
use Rattle.ngc_machine_maker.specs.declared.figures.PerAxis.{PerAxis}
use Rattle.ngc_machine_maker.specs.declared.line.Remark.{Remark}
use Rattle.ngc_machine_maker.specs.declared.line.Remark.TheVariants as remarks
use Rattle.ngc_machine_maker.specs.declared.line.Value.TheVariants as values
use Rattle.ngc_machine_maker.specs.declared.numbers.MachineNumbers.{MachineNumbers}
use Rattle.ngc_machine_maker.specs.DumpLines.{supplied_lines, offset_after, origin_lines, home_by}
use Rattle.ngc_machine_maker.specs.ShopUnits.{speed, speeds, acceleration, arc_acceleration}
use Rattle.ngc_machine_maker.specs.ShopUnits.{motor_step, is_rounded, is_short, errors}
use Rattle.ngc_machine_maker.specs.Texts.{line_text, thousandths_text, axes_text}

unfoldable pub heading : List ℕ
heading =
    codes "# Made by `ngc machine`. Lengths are nanometres, rates are millionths of a step in a\n"
    ++ codes "# tick, three numbers are X, Y, Z, and remarks are in the units of a shop.\n"

-- ---- the motors' step, if all have the same and it is no whole number of nanometres

abbrev pub direction_text : Bool → List ℕ
direction_text short = if short then codes "less far" else codes "farther"

unfoldable pub steps_text : MachineNumbers → Figures → List ℕ
steps_text n f = codes "the motors' step is " ++ thousandths_text (motor_step f)
    ++ codes " nm, and the file's " ++ decimal n.step ++ codes " nm"

unfoldable pub errors_text : MachineNumbers → Figures → List ℕ
errors_text n f =
    axes_text (size_text (errors n f).x) (size_text (errors n f).y) (size_text (errors n f).z)

unfoldable pub scale_text : MachineNumbers → Figures → List ℕ
scale_text n f = steps_text n f ++ codes ": over their travel the axes go " ++ errors_text n f
    ++ codes " mm " ++ direction_text (is_short n f) ++ codes " than the file says\n"

-- after the first word of a remark or a note, if there is anything to say
unfoldable pub scale_after : List ℕ → MachineNumbers → Figures → List ℕ
scale_after before n f = if is_rounded n f then before ++ scale_text n f else []

-- ---- the keys

unfoldable pub step_lines : MachineNumbers → List ℕ
step_lines n = codes "\nversion = 2\n"
    ++ line_text (codes "step") (values.Number n.step) (remarks.Step n.step)
    ++ line_text (codes "ticks_per_second") (values.Number n.ticks_per_second) remarks.Ticks

abbrev pub rate_line : List ℕ → MachineNumbers → ℕ → List ℕ
rate_line key n rate = line_text key (values.Number rate) (remarks.Speed (speed n rate))

unfoldable pub speed_lines : MachineNumbers → List ℕ
speed_lines n = rate_line (codes "max_rate") n n.max_rate
    ++ line_text (codes "axis_rate") (values.Rates n.axis_rate) (remarks.Speeds (speeds n))

-- where two motions meet: each key is preceded by a comment on what it does and how to try it
unfoldable pub corner_comment : List ℕ
corner_comment =
    codes "# `corner`: motions may meet at this speed at any angle. By default it is what the axis\n"
    ++ codes "# with the least acceleration reaches in 5 ms, and at least 2 mm/s.\n"

unfoldable pub jump_comment : List ℕ
jump_comment =
    codes "# `jump`: an axis may gain or lose this speed at once where motions meet. At the machine\n"
    ++ codes "# start with half of it, raise it until you hear lost steps, and keep two thirds.\n"

unfoldable pub joint_lines : MachineNumbers → List ℕ
joint_lines n = corner_comment ++ rate_line (codes "corner") n n.corner ++ jump_comment
    ++ rate_line (codes "jump") n n.jump

-- where the turn holds at every place, a motion may still enter an arc at more than that
abbrev pub arcs_remark : Bool → ℕ → Remark
arcs_remark by_place acceleration =
    if by_place then remarks.ArcsByPlace acceleration else remarks.Arcs acceleration

unfoldable pub acceleration_lines : MachineNumbers → List ℕ
acceleration_lines n =
    line_text (codes "change") (values.Number n.change) (remarks.Acceleration (acceleration n))
    ++ line_text (codes "turn") (values.Number n.turn) (arcs_remark n.arc_feed (arc_acceleration n))

-- how far the controller looks ahead, and the feed and the turn on arcs, if they are kept at every
-- place
unfoldable pub ring_lines : ℕ → List ℕ
ring_lines ring =
    codes "# `ring`: the controller looks ahead over this many. If short lines are slow, try 1024.\n"
    ++ line_text (codes "ring") (values.Number ring) remarks.Ring

unfoldable pub arc_feed_comment : List ℕ
arc_feed_comment =
    codes "# `arc_feed`: if arcs run roughly, try 0 here and half of `turn`. Then they are slower.\n"

abbrev pub arc_feed_lines : Bool → List ℕ
arc_feed_lines arc_feed =
    if arc_feed
    then arc_feed_comment ++ line_text (codes "arc_feed") (values.Number 2) remarks.ArcFeed
    else []

abbrev pub place_line : List ℕ → PerAxis ℤ → List ℕ
place_line key place = line_text key (values.Place place) (remarks.Place place)

unfoldable pub place_lines : MachineNumbers → Figures → List ℕ
place_lines n f = place_line (codes "low") n.low ++ place_line (codes "high") n.high
    ++ place_line (codes "start") n.start
    ++ place_line (codes "home28") (home_by n.home28 f.home28 f.dump.places.g28)
    ++ place_line (codes "home30") (home_by n.home30 f.home30 f.dump.places.g30)

-- the language of programs, if it isn't our own
unfoldable pub grbl_lines : List ℕ
grbl_lines =
    codes "# `dialect`: programs are read as GRBL reads them. Without this key they must be in ngc's\n"
    ++ codes "# own language (docs/CAM.md).\n"
    ++ codes "dialect = \"grbl\"\n"

abbrev pub dialect_lines : Bool → List ℕ
dialect_lines grbl = if grbl then grbl_lines else []

-- the whole file
abbrev pub file_text : MachineNumbers → Figures → List ℕ
file_text n f = heading ++ scale_after (codes "# ") n f ++ supplied_lines f.dump.supplied
    ++ offset_after (codes "# ") f.dump.places ++ step_lines n ++ speed_lines n
    ++ joint_lines n ++ acceleration_lines n ++ ring_lines n.ring ++ arc_feed_lines n.arc_feed
    ++ place_lines n f ++ origin_lines f.dump.places ++ dialect_lines f.grbl

-- the notes on it; only a file with rates has a step of its own
abbrev pub scale_note : Bool → MachineNumbers → Figures → List ℕ
scale_note rates n f = if rates then scale_after (codes "note: ") n f else []

abbrev pub notes_text : Bool → MachineNumbers → Figures → List ℕ
notes_text rates n f = scale_note rates n f ++ offset_after (codes "note: ") f.dump.places
