-- The part of an interval at which an origin stays in its range. Our own.
use Rattle.std.specs.Prelude.{◌/◌, ℤ, pos, ◌+ℤ◌, ◌-ℤ◌, int_le, unsigned_abs, Option, Some, None}
use Rattle.std.specs.Prelude.{Bool, if◌then◌else◌}
use Rattle.std.specs.Int.{int_min, int_max}
use Rattle.ngc_fixed_length.specs.declared.points.Point3.{Point3}
use Rattle.ngc_machine_files.specs.Ranges.{place_limit}
use Rattle.ngc_place.specs.declared.axis.Axis.{Axis}
use Rattle.ngc_place.specs.declared.axis.Axis.TheVariants.{X, Y, Z}
use Rattle.ngc_place.specs.declared.interval.Interval.{Interval}

abbrev pub coordinate : Axis → Point3 → ℤ
coordinate X p = p.x
coordinate Y p = p.y
coordinate Z p = p.z

-- the number of whole steps in a distance
abbrev pub whole_steps : ℤ → ℤ → ℤ
whole_steps step distance = pos (unsigned_abs distance / unsigned_abs step)

-- the shifts of an interval at which a coordinate of the origin stays in its range
abbrev pub interval_from : ℤ → ℤ → Option Interval
interval_from from to = if int_le from to then Some (record { from = from; to = to }) else None

abbrev pub in_range : Bool → ℤ → ℤ → Interval → Option Interval
in_range far step z i =
    interval_from (int_max i.from (pos 0 -ℤ whole_steps step (pos (place_limit far) +ℤ z)))
    (int_min i.to (whole_steps step (pos (place_limit far) -ℤ z)))

abbrev pub part_in_range : Bool → ℤ → ℤ → Option Interval → Option Interval
part_in_range far step z None = None
part_in_range far step z (Some i) = in_range far step z i
