-- A machine file of version 3, line by line. Our own.
use Rattle.std.specs.Prelude.{ℕ, ℤ, List, [], ◌++◌, codes, Bool, if◌then◌else◌, Option, Some, None, unwrap_or}
use Rattle.ngc_machine_maker.specs.declared.figures.Acceleration.{Acceleration}
use Rattle.ngc_machine_maker.specs.DumpLines.{are_zero, offset_after, supplied_lines}
use Rattle.ngc_machine_maker.specs.declared.figures.End.{End}
use Rattle.ngc_machine_maker.specs.declared.figures.Figures.{Figures}
use Rattle.ngc_machine_maker.specs.declared.figures.Length.{Length}
use Rattle.ngc_machine_maker.specs.declared.figures.PerAxis.{PerAxis}
use Rattle.ngc_machine_maker.specs.declared.figures.StoredPlaces.{StoredPlaces}
use Rattle.ngc_machine_writer.specs.Axes.{axis_lines, x_of, y_of, z_of}
use Rattle.ngc_machine_writer.specs.Lines.{acceleration_line, coordinates, number_line, place_line, some_place_line, speed_line}

unfoldable pub heading : List ℕ
heading =
    codes "# Made by `ngc machine`. Each length, speed and acceleration has its unit. ngc computes the\n"
    ++ codes "# rates from them, to the safe side: change a figure, and look at `ngc show`.\n"

-- the language of programs, if it isn't our own
unfoldable pub grbl_lines : List ℕ
grbl_lines =
    codes "# `dialect`: programs are read as GRBL reads them. Without this key they must be in ngc's\n"
    ++ codes "# own language (docs/CAM.md).\n"
    ++ codes "dialect = \"grbl\"\n"

abbrev pub dialect_lines : Bool → List ℕ
dialect_lines grbl = if grbl then grbl_lines else []

abbrev pub ticks_lines : Option ℕ → List ℕ
ticks_lines None = []
ticks_lines (Some ticks) = number_line (codes "ticks") ticks

-- where two motions meet: each key is preceded by a comment on what it does and how to try it
unfoldable pub corner_comment : List ℕ
corner_comment =
    codes "# `corner`: motions may meet at this speed at any angle. Without the key it is what the axis\n"
    ++ codes "# with the least acceleration reaches in 5 ms, and at least 2 mm/s.\n"

unfoldable pub jump_comment : List ℕ
jump_comment =
    codes "# `jump`: an axis may gain or lose this speed at once where motions meet. At the machine\n"
    ++ codes "# start with half of it, raise it until you hear lost steps, and keep two thirds.\n"

unfoldable pub joint_lines : Figures → List ℕ
joint_lines f = corner_comment ++ speed_line (codes "corner") f.corner ++ jump_comment
    ++ speed_line (codes "jump") (unwrap_or f.jump f.corner)

unfoldable pub ring_comment : List ℕ
ring_comment =
    codes "# `ring`: the controller looks ahead over this many. If short lines are slow, try 1024.\n"

unfoldable pub arc_feed_comment : List ℕ
arc_feed_comment =
    codes "# `arc_feed`: if arcs run roughly, try 0 here, with half of `turn`, which is by default the\n"
    ++ codes "# acceleration of each axis. Then they are slower.\n"

abbrev pub arc_feed_of : Bool → ℕ
arc_feed_of by_place = if by_place then 2 else 0

abbrev pub turn_lines : Option Acceleration → List ℕ
turn_lines None = []
turn_lines (Some a) = acceleration_line (codes "turn") a

unfoldable pub path_lines : Figures → List ℕ
path_lines f = ring_comment ++ number_line (codes "ring") f.ring ++ arc_feed_comment
    ++ number_line (codes "arc_feed") (arc_feed_of f.arc_feed) ++ turn_lines f.arcs

-- a home position: that of an option, or that of the dump; without the key it is the start
abbrev pub home_of : PerAxis End → Option (PerAxis Length) → Option (PerAxis ℤ) → Option (PerAxis ℤ)
home_of zero (Some option) stored = Some (coordinates zero option)
home_of zero None stored = stored

unfoldable pub place_lines : Figures → List ℕ
place_lines f = place_line (codes "start") (coordinates f.zero f.start)
    ++ some_place_line (codes "home28") (home_of f.zero f.home28 f.dump.places.g28)
    ++ some_place_line (codes "home30") (home_of f.zero f.home30 f.dump.places.g30)

unfoldable pub axes_lines : Figures → List ℕ
axes_lines f = axis_lines (codes "x") (x_of f) ++ axis_lines (codes "y") (y_of f)
    ++ axis_lines (codes "z") (z_of f)

-- the origins that a controller with GRBL has stored, if one isn't zero
unfoldable pub stored_origins : StoredPlaces → List ℕ
stored_origins p = codes "\n[origin]\n" ++ some_place_line (codes "G54") p.g54
    ++ some_place_line (codes "G55") p.g55 ++ some_place_line (codes "G56") p.g56
    ++ some_place_line (codes "G57") p.g57 ++ some_place_line (codes "G58") p.g58
    ++ some_place_line (codes "G59") p.g59

abbrev pub origin_lines : StoredPlaces → List ℕ
origin_lines p = if are_zero p then [] else stored_origins p

-- the whole file
abbrev pub written_text : Figures → List ℕ
written_text f = heading ++ supplied_lines f.dump.supplied
    ++ offset_after (codes "# ") f.dump.places ++ codes "\nversion = 3\n"
    ++ dialect_lines f.grbl ++ ticks_lines f.ticks ++ joint_lines f ++ path_lines f
    ++ place_lines f ++ axes_lines f ++ origin_lines f.dump.places
