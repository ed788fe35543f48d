-- A motion in the program's coordinates as a fact: an object of a JSON document (RFC 8259) after a
-- comma, on a line of its own. Lengths are in nanometres. Our own.
use Rattle.std.specs.Prelude.{ℕ, List, ◌++◌, codes, decimal}
use Rattle.std.specs.Fmt.{signed_decimal}
use Rattle.ngc_fixed_length.specs.declared.points.Point3.{Point3}
use Rattle.ngc_fixed_length.specs.declared.units.Units.{Units}
use Rattle.ngc_fixed_length.specs.declared.units.Units.TheVariants.{Millimetres, Inches}
use Rattle.ngc_frames.specs.Frame.{selected_origin}
use Rattle.ngc_frames.specs.Words.{system_text}
use Rattle.ngc_frames.specs.declared.in_force.FrameInForce.{FrameInForce}

unfoldable pub triple : Point3 → List ℕ
triple p = codes "[" ++ signed_decimal p.x ++ codes "," ++ signed_decimal p.y ++ codes ","
    ++ signed_decimal p.z ++ codes "]"

-- the line that set the value before it, 0 if it is as at the start
unfoldable pub line_fact : ℕ → List ℕ
line_fact line = codes ",\"line\":" ++ decimal line ++ codes "}"

unfoldable pub unit_text : Units → List ℕ
unit_text Millimetres = codes "mm"
unit_text Inches = codes "inch"

abbrev pub system_fact : FrameInForce → List ℕ
system_fact f = codes ",\n{\"fact\":\"coordinates\",\"system\":{\"code\":\"" ++
    (system_text f.frame.frames.active ++ (codes "\"" ++ line_fact f.selection_line))

abbrev pub origin_fact : FrameInForce → List ℕ
origin_fact f =
    codes ",\"origin\":{\"at\":" ++ (triple (selected_origin f.frame) ++ line_fact f.origin_line)

abbrev pub axis_offset_fact : FrameInForce → List ℕ
axis_offset_fact f = codes ",\"axis_offset\":{\"by\":"
    ++ (triple f.frame.frames.axis_offset ++ line_fact f.axis_offset_line)

abbrev pub tool_length_fact : FrameInForce → List ℕ
tool_length_fact f = codes ",\"tool_length_offset\":{\"by\":"
    ++ (signed_decimal f.frame.frames.length ++ line_fact f.tool_length_line)

abbrev pub unit_fact : FrameInForce → List ℕ
unit_fact f = codes ",\"unit\":{\"name\":\"" ++
    (unit_text f.frame.unit ++ (codes "\"" ++ line_fact f.unit_line))

unfoldable pub ends_fact : Point3 → Point3 → List ℕ
ends_fact from to =
    codes ",\"from\":" ++ (triple from ++ (codes ",\"to\":" ++ (triple to ++ codes "}")))

-- the system and its origin
unfoldable pub zero_fact : FrameInForce → List ℕ
zero_fact f = system_fact f ++ origin_fact f

unfoldable pub offsets_fact : FrameInForce → List ℕ
offsets_fact f = axis_offset_fact f ++ (tool_length_fact f ++ unit_fact f)

-- the start and the end of a motion in the program's coordinates, and which coordinates these are
abbrev pub motion_fact : FrameInForce → Point3 → Point3 → List ℕ
motion_fact f from to = zero_fact f ++ (offsets_fact f ++ ends_fact from to)
