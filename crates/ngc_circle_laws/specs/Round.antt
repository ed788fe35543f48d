-- The quadrant points of an arc, from the quadrants through which it passes. Our own.
use Rattle.std.specs.Prelude.{◌≡◌, ℕ, ◌+◌, ◌-◌, ◌<◌, min}
use Rattle.ngc_circle_walk.specs.declared.spoke.Spoke.{Spoke}
use Rattle.ngc_arc_geometry.specs.Shape.{ArcShape, start_of, end_of}
use Rattle.ngc_arc_geometry.specs.Radii.{outer_radius}
use Rattle.ngc_arc_geometry.specs.Sector.{extremes}
use Rattle.ngc_circle_laws.specs.Placed.{placed, turned_by, axis_points, first_axis, IsATurn}

-- an arc from b to e, which is `whole` quadrants further on
pub record IsRound (a : ArcShape) (b e : Spoke) (whole : ℕ) : Type 0 where
  pub start : start_of a ≡ placed a b
  pub end : end_of a ≡ placed a e
  pub start_out : 0 < b.x
  pub end_out : 0 < e.x
  pub to_end : e.quadrant ≡ turned_by whole b.quadrant
  pub turn : IsATurn whole b.x b.y e.x e.y
  pub some_radius : 0 < outer_radius a

-- its quadrant points are those from the first at or past its start to the last at or before its
-- end, at most four
abbrev pub QuadrantPointsAre : Type 0
QuadrantPointsAre = (a : ArcShape) (b e : Spoke) (whole : ℕ) → IsRound a b e whole →
    extremes a ≡ axis_points a b (outer_radius a) (first_axis b.y)
    (min 4 (whole + 1 - first_axis b.y))
