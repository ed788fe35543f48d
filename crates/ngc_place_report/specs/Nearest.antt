-- The shortest shift along one axis at which a program fits. Our own.
use Rattle.std.specs.Prelude.{ℤ, pos, int_lt, nat_lt, unsigned_abs, Option, Some, None}
use Rattle.std.specs.Prelude.{if◌then◌else◌}
use Rattle.ngc_place.specs.declared.axis.Axis.{Axis}
use Rattle.ngc_place.specs.declared.axis.Axis.TheVariants.{X, Y, Z}
use Rattle.ngc_place.specs.declared.interval.Interval.{Interval}
use Rattle.ngc_place_report.specs.declared.nearest.Shift.{Shift}
use Rattle.ngc_place_report.specs.declared.placement.Finding.{Finding}
use Rattle.ngc_place_report.specs.declared.placement.Finding.TheVariants.{Unmoved, Nowhere, Fits}
use Rattle.ngc_place_report.specs.declared.placement.Placement.{Placement}

-- the end of an interval next to 0, or 0 within it
abbrev pub next_to_zero : Interval → ℤ
next_to_zero i =
    if int_lt (pos 0) i.from then i.from else if int_lt i.to (pos 0) then i.to else pos 0

abbrev pub shift_along : Axis → Finding → Option Shift
shift_along axis Unmoved = None
shift_along axis Nowhere = None
shift_along axis (Fits i) = Some (record { axis = axis; steps = next_to_zero i })

-- the shorter of two shifts, the first if they are as short
abbrev pub shorter : Option Shift → Option Shift → Option Shift
shorter None b = b
shorter (Some a) None = Some a
shorter (Some a) (Some b) =
    if nat_lt (unsigned_abs b.steps) (unsigned_abs a.steps) then Some b else Some a

abbrev pub shortest : Placement → Option Shift
shortest p =
    shorter (shorter (shift_along X p.x.finding) (shift_along Y p.y.finding))
    (shift_along Z p.z.finding)
