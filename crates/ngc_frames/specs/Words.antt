-- A motion in the program's coordinates, in words and millimetres. Our own.
use Rattle.std.specs.Prelude.{ℕ, ◌==◌, Bool, List, [], ◌++◌, codes, decimal, if◌then◌else◌}
use Rattle.ngc_fixed_length.specs.declared.modes.System.{System}
use Rattle.ngc_fixed_length.specs.declared.modes.System.TheVariants as systems
use Rattle.ngc_fixed_length.specs.declared.points.Point3.{Point3}
use Rattle.ngc_fixed_length.specs.declared.units.Units.{Units}
use Rattle.ngc_fixed_length.specs.declared.units.Units.TheVariants.{Millimetres, Inches}
use Rattle.ngc_text.specs.Millimetres.{mm_text}
use Rattle.ngc_frames.specs.Frame.{selected_origin}
use Rattle.ngc_frames.specs.declared.in_force.FrameInForce.{FrameInForce}

-- a coordinate system by the code that selects it
unfoldable pub system_text : System → List ℕ
system_text systems.First = codes "G54"
system_text systems.Second = codes "G55"
system_text systems.Third = codes "G56"
system_text systems.Fourth = codes "G57"
system_text systems.Fifth = codes "G58"
system_text systems.Sixth = codes "G59"
system_text systems.Seventh = codes "G59.1"
system_text systems.Eighth = codes "G59.2"
system_text systems.Ninth = codes "G59.3"

unfoldable pub place_text : Point3 → List ℕ
place_text p =
    codes "X " ++ mm_text p.x ++ codes ", Y " ++ mm_text p.y ++ codes ", Z " ++ mm_text p.z

-- the line that set something
unfoldable pub line_text : ℕ → List ℕ
line_text line = codes " of line " ++ decimal line

-- nothing if it is as at the start
unfoldable pub line_if_set : ℕ → List ℕ
line_if_set line = if line == 0 then [] else line_text line

-- an origin that no line set is that of `--origin` where the command line has one, and that of
-- the machine file otherwise
abbrev pub origin_at_start : Bool → List ℕ
origin_at_start given = if given then codes " of --origin" else codes " of the machine file"

unfoldable pub origin_source : Bool → ℕ → List ℕ
origin_source given line = if line == 0 then origin_at_start given else line_text line

abbrev pub system_words : FrameInForce → List ℕ
system_words f =
    codes "In " ++ (system_text f.frame.frames.active ++ line_if_set f.selection_line)

abbrev pub ends_words : Point3 → Point3 → List ℕ
ends_words from to = codes " it goes from " ++ (place_text from ++ (codes " to " ++ place_text to))

abbrev pub origin_words : Bool → FrameInForce → List ℕ
origin_words given f = codes ".\nThe origin is " ++
    (place_text (selected_origin f.frame) ++ origin_source given f.origin_line)

abbrev pub axis_offset_words : FrameInForce → List ℕ
axis_offset_words f = if f.axis_offset_line == 0 then [] else codes ", the axis offset "
    ++ (place_text f.frame.frames.axis_offset ++ line_text f.axis_offset_line)

abbrev pub length_offset_words : FrameInForce → List ℕ
length_offset_words f = codes ", the tool length offset "
    ++ (mm_text f.frame.frames.length ++ line_text f.tool_length_line)

abbrev pub tool_length_words : FrameInForce → List ℕ
tool_length_words f =
    if f.tool_length_line == 0 then codes ", and there is no tool length offset"
    else length_offset_words f

abbrev pub unit_words : ℕ → Units → List ℕ
unit_words line Millimetres = []
unit_words line Inches = codes ", and lengths are in inches since line " ++ decimal line

-- where a motion begins and ends, and in which system
unfoldable pub goes_words : FrameInForce → Point3 → Point3 → List ℕ
goes_words f from to = system_words f ++ ends_words from to

-- the zero of these coordinates
unfoldable pub zero_words : Bool → FrameInForce → List ℕ
zero_words given f = origin_words given f ++ axis_offset_words f

unfoldable pub lengths_words : FrameInForce → List ℕ
lengths_words f = tool_length_words f ++ (unit_words f.unit_line f.frame.unit ++ codes ".\n")

-- the start and the end of a motion in the program's coordinates, and which coordinates these are
abbrev pub motion_words : Bool → FrameInForce → Point3 → Point3 → List ℕ
motion_words given f from to =
    goes_words f from to ++ (zero_words given f ++ lengths_words f)
