-- What a line changes of the modes, or has in force: by the rules. Our own.
use Rattle.std.specs.Prelude.{ℕ, Bool, true, false, not, List}
use Rattle.ngc_fixed_length.specs.declared.modes.Distance.{Distance}
use Rattle.ngc_fixed_length.specs.declared.modes.FeedMode.{FeedMode}
use Rattle.ngc_fixed_length.specs.declared.modes.FeedMode.TheVariants.{PerMinute, InverseTime}
use Rattle.ngc_fixed_length.specs.declared.modes.Plane.{Plane}
use Rattle.ngc_fixed_length.specs.declared.modes.Plane.TheVariants.{XY, ZX, YZ}
use Rattle.ngc_fixed_length.specs.declared.units.Units.{Units}
use Rattle.ngc_fixed_length.specs.declared.units.Units.TheVariants.{Millimetres, Inches}
use Rattle.ngc_dialect_rules.specs.declared.code.Code.{Code}
use Rattle.ngc_dialect_rules.specs.Bytes as bytes
use Rattle.ngc_dialect_rules.specs.Arcs.{plane_by}
use Rattle.ngc_dialect_rules.specs.Force.{distance_by, feed_mode_by, units_by}
use Rattle.ngc_dialect_rules.specs.Moves.{is_incremental as relative}
use Rattle.ngc_dialect_rules.specs.Rules.{is_per_minute as per_minute}
use Rattle.ngc_dialect_rules.specs.Tables.{code_in}
use Rattle.ngc_dialect_rules.specs.declared.codes.TheConstants as codes

abbrev pub units_on : Units → List Code → Units
units_on before line = units_by before (code_in codes.UNITS line)

abbrev pub is_inches : Units → Bool
is_inches Millimetres = false
is_inches Inches = true

abbrev pub changes_units : Units → List Code → Bool
changes_units Millimetres line = is_inches (units_on Millimetres line)
changes_units Inches line = not (is_inches (units_on Inches line))

abbrev pub is_incremental : Distance → List Code → Bool
is_incremental before line = relative (distance_by before (code_in codes.DISTANCES line))

abbrev pub is_per_minute : FeedMode → List Code → Bool
is_per_minute before line = per_minute (feed_mode_by before (code_in codes.FEED_MODES line))

-- G94 after G93
abbrev pub ends_inverse_time : FeedMode → List Code → Bool
ends_inverse_time PerMinute line = false
ends_inverse_time InverseTime line = is_per_minute InverseTime line

abbrev pub plane_on : Plane → List Code → Plane
plane_on before line = plane_by before (code_in codes.PLANES line)

-- the letters of a plane's axes
abbrev pub u_letter : Plane → ℕ
u_letter XY = bytes.X
u_letter ZX = bytes.Z
u_letter YZ = bytes.Y

abbrev pub v_letter : Plane → ℕ
v_letter XY = bytes.Y
v_letter ZX = bytes.X
v_letter YZ = bytes.Z

-- the letters of the third axis: its coordinate, and the offset of an arc along it
abbrev pub depth_letter : Plane → ℕ
depth_letter XY = bytes.Z
depth_letter ZX = bytes.Y
depth_letter YZ = bytes.X

abbrev pub third_offset : Plane → ℕ
third_offset XY = bytes.K
third_offset ZX = bytes.J
third_offset YZ = bytes.I
