-- Motions straight down. Our own.
use Rattle.std.specs.Prelude.{ℤ, pos, ◌-ℤ◌, int_lt, Option, Some, None, Bool, true, false, ◌&&◌}
use Rattle.std.specs.Prelude.{if◌then◌else◌}
use Rattle.std.specs.Ordering.{int_eq}
use Rattle.ngc_commands.specs.Movement.{end_of}
use Rattle.ngc_commands.specs.declared.movement.Motion.{Motion}
use Rattle.ngc_commands.specs.declared.movement.Pace.{Pace}
use Rattle.ngc_commands.specs.declared.movement.Pace.TheVariants as paces
use Rattle.ngc_commands.specs.declared.movement.Way.{Way}
use Rattle.ngc_commands.specs.declared.movement.Way.TheVariants.{Line, Arc}
use Rattle.ngc_tool_figures.specs.declared.dive.Dive.{Dive}

-- how far a path goes straight down, less than 0 upwards; none if it goes aside
abbrev pub fall : Way → Option ℤ
fall (Line start end) =
    if int_eq start.x end.x && int_eq start.y end.y then Some (start.z -ℤ end.z) else None
fall (Arc arc) = None

abbrev pub is_feed : Pace → Bool
is_feed paces.Rapid = false
is_feed (paces.Feed feed) = true

abbrev pub goes_down : Pace → ℤ → Bool
goes_down pace fall = is_feed pace && int_lt (pos 0) fall

-- A dive is the lowest height to which feeds have gone straight down since the axes last moved
-- aside, and whether they are above it now. This is the dive after one more motion straight to
-- height z, which may be a feed down.
abbrev pub begun : Bool → ℤ → Option Dive
begun down z = if down then Some (record { bottom = z; is_out = false }) else None

abbrev pub deepened : Bool → ℤ → Dive → Dive
deepened down z d =
    if down && int_lt z d.bottom then record { bottom = z; is_out = false }
    else record { bottom = d.bottom; is_out = int_lt d.bottom z }

abbrev pub dived : Bool → ℤ → Option Dive → Option Dive
dived down z None = begun down z
dived down z (Some d) = Some (deepened down z d)

-- a motion aside ends it
abbrev pub dive_by : Option Dive → Pace → ℤ → Option ℤ → Option Dive
dive_by dive pace z None = None
dive_by dive pace z (Some fall) = dived (goes_down pace fall) z dive

abbrev pub dive_after : Option Dive → Motion → Option Dive
dive_after dive m = dive_by dive m.pace (end_of m.way).z (fall m.way)
