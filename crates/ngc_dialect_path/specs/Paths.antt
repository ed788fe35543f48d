-- Where the tool is, beside the programmed path (LinuxCNC's documentation, "Cutter Radius
-- Compensation"): lines are read by the programmed place.
use Rattle.std.specs.Prelude.{ℕ, Bool, true, false, Option, Some, None, is_some}
use Rattle.ngc_fixed_length.specs.Places.{at_height}
use Rattle.ngc_fixed_length.specs.declared.modes.Plane.{Plane}
use Rattle.ngc_fixed_length.specs.declared.points.Point3.{Point3}
use Rattle.ngc_fixed_length.specs.declared.modes.Distance.{Distance}
use Rattle.ngc_modal_state.specs.declared.code.MotionMode.TheVariants.{Cancel}
use Rattle.ngc_dialect_rules.specs.declared.front.Known.{Known}
use Rattle.ngc_dialect_path.specs.declared.path.Beside.{Beside}
use Rattle.ngc_dialect_path.specs.declared.path.Path.{Path}
use Rattle.ngc_dialect_path.specs.declared.path.Path.TheVariants.{On, Left}

-- whether a move is held, so that what the program says after it waits
abbrev pub is_holding : Option Path → Bool
is_holding None = false
is_holding (Some (On p)) = is_some p.moves.held
is_holding (Some (Left place)) = false

-- the programmed place
abbrev pub left_at : Plane → Beside → Point3
left_at plane p = at_height plane p.moves.place p.moves.height

-- What a line is read by. While a move is held, what waits isn't executed, and our own interpreter's
-- distance mode is older than the program's.
unfoldable pub programmed : Known → Option Path → Known
programmed k None = k
programmed k (Some (On p)) = record k {
  place = left_at k.modes.plane p;
  modes = record k.modes { distance = p.distance };
}
programmed k (Some (Left place)) = record k { place = place }

abbrev pub held_line : Option Path → ℕ
held_line None = 0
held_line (Some (On p)) = p.line
held_line (Some (Left place)) = 0

-- What our own interpreter knows where the tool is at a place, in a distance mode. The motion mode is left
-- open, so that each motion has its code.
abbrev pub known_at : Known → Point3 → Distance → Known
known_at k place distance = record k {
  place = place;
  modes = record k.modes { distance = distance; motion = Cancel };
}

-- the path in a line's distance mode
abbrev pub in_distance : Option Path → Distance → Option Path
in_distance None distance = None
in_distance (Some (On p)) distance = Some (On (record p { distance = distance }))
in_distance (Some (Left place)) distance = Some (Left place)
