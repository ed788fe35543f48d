-- The axes of a plane.
use Rattle.std.specs.Prelude.{ℤ}
use Rattle.ngc_fixed_length.specs.declared.points.Point2.{Point2}
use Rattle.ngc_arc_geometry.specs.declared.extent.PlaneAxis.{PlaneAxis}
use Rattle.ngc_arc_geometry.specs.declared.extent.PlaneAxis.TheVariants.{U, V}

abbrev pub along : PlaneAxis → Point2 → ℤ
along U p = p.u
along V p = p.v
