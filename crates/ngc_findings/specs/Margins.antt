-- The side of the travel with the least margin. Our own.
use Rattle.std.specs.Prelude.{ℤ, pos, int_le, int_lt, ◌≡◌, if◌then◌else◌}
use Rattle.ngc_findings.specs.Rooms.{is_inside}
use Rattle.ngc_findings.specs.declared.margins.Axis.{Axis}
use Rattle.ngc_findings.specs.declared.margins.Axis.TheVariants.{X, Y, Z}
use Rattle.ngc_findings.specs.declared.margins.Margin.{Margin}
use Rattle.ngc_findings.specs.declared.margins.Side.{Side}
use Rattle.ngc_findings.specs.declared.margins.Side.TheVariants.{Below, Above}
use Rattle.ngc_findings.specs.declared.travel.AxisSpace.{AxisSpace}
use Rattle.ngc_findings.specs.declared.travel.Room.{Room}

abbrev pub margin : Axis → Side → ℤ → Margin
margin axis side left = record { axis = axis; side = side; left = left }

-- the smaller of two margins, and the first if they are equal
abbrev pub narrower : Margin → Margin → Margin
narrower m n = if int_lt n.left m.left then n else m

abbrev pub axis_margin : Axis → AxisSpace → Margin
axis_margin axis r = narrower (margin axis Below r.below) (margin axis Above r.above)

abbrev pub tightest : Room → Margin
tightest r = narrower (narrower (axis_margin X r.x) (axis_margin Y r.y)) (axis_margin Z r.z)

-- a box lies within the travel exactly if it does so on this side
abbrev pub TightestIsReported : Type 0
TightestIsReported = (r : Room) → is_inside r ≡ int_le (pos 0) (tightest r).left
