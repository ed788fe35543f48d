-- Where compensation begins (LinuxCNC's documentation, "G41, G42", "G41.1, G42.1"). The radius of a
-- tool is that of its lowest part: our own.
use Rattle.std.specs.Prelude.{ℕ, ◌/◌, ℤ, pos, unsigned_abs, List, [], ◌∷◌, Option, Some, None, Result}
use Rattle.std.specs.Prelude.{Ok, Err, is_some, if◌then◌else◌}
use Rattle.ngc_fixed_length.specs.Limits.{MILLION}
use Rattle.ngc_fixed_length.specs.Places.{in_plane, height}
use Rattle.ngc_fixed_length.specs.Rounding.{nearest}
use Rattle.ngc_machine_files.specs.declared.parts.Part.{Part}
use Rattle.ngc_machine_files.specs.declared.tools.Tool.{Tool}
use Rattle.ngc_machine_files.specs.Tools.{tool_at}
use Rattle.ngc_compensation.specs.Steps.{start as compensation}
use Rattle.ngc_compensation.specs.declared.moves.Compensation.{Compensation}
use Rattle.ngc_compensation.specs.declared.moves.Side.{Side}
use Rattle.ngc_compensation.specs.declared.moves.Side.TheVariants as sides
use Rattle.ngc_dialect_rules.specs.declared.code.Code.{Code}
use Rattle.ngc_dialect_rules.specs.declared.fault.Cause.TheVariants as causes
use Rattle.ngc_dialect_rules.specs.declared.fault.Fault.{Fault}
use Rattle.ngc_dialect_rules.specs.declared.front.Known.{Known}
use Rattle.ngc_dialect_rules.specs.Bytes as bytes
use Rattle.ngc_dialect_rules.specs.Faults.{◌>>=◌, about_letter}
use Rattle.ngc_dialect_rules.specs.Tables.{is_among}
use Rattle.ngc_dialect_path.specs.declared.line.PathLine.{PathLine}
use Rattle.ngc_dialect_path.specs.declared.line.Start.{Start}
use Rattle.ngc_dialect_path.specs.declared.line.Width.{Width}
use Rattle.ngc_dialect_path.specs.declared.line.Width.TheVariants as widths
use Rattle.ngc_dialect_path.specs.declared.path.Path.{Path}
use Rattle.ngc_dialect_path.specs.declared.path.Path.TheVariants.{On}
use Rattle.ngc_dialect_path.specs.declared.tables.TheConstants as tables
use Rattle.ngc_dialect_path.specs.Refusing.{or_refused}

abbrev pub side_of : Code → Side
side_of code = if is_among tables.LEFT code then sides.Left else sides.Right

-- ---- the radius

abbrev pub half : ℤ → ℤ
half diameter = nearest diameter (pos 2)

-- a tool's number, from millionths
abbrev pub number_of : ℤ → ℕ
number_of value = unsigned_abs value / MILLION

abbrev pub lowest_radius : List Part → ℤ
lowest_radius [] = pos 0
lowest_radius (p ∷ ps) = p.radius

abbrev pub found_radius : Option Tool → Result ℤ Fault
found_radius None = Err (about_letter causes.NoSuchTool bytes.D)
found_radius (Some tool) = Ok (lowest_radius tool.parts)

abbrev pub radius_by : List Tool → Width → Result ℤ Fault
radius_by tools (widths.Diameter d) = Ok (half d)
radius_by tools (widths.Tool n) = found_radius (tool_at tools (number_of n))

abbrev pub radius_of : List Tool → Start → Result ℤ Fault
radius_of tools start = radius_by tools start.width

-- ---- the path

abbrev pub on_from : PathLine → Option Compensation → Option Path
on_from line None = None
on_from line (Some moves) =
    Some (On (record { moves = moves; distance = line.force.distance; line = 0 }))

-- the path after compensation begins, by what the line is read by after its modes
abbrev pub begun : Known → Option Path → PathLine → Start → ℤ → Result (Option Path) Fault
begun k path line start radius = do
  moves ← or_refused start.code (compensation (is_some path) k.modes.plane (side_of start.code) radius
      (in_plane k.modes.plane k.place) (height k.modes.plane k.place))
  Ok (on_from line moves)
