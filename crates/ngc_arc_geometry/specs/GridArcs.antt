-- An arc on a grid. Our own.
use Rattle.std.specs.Prelude.{◌≡◌, ◌≤◌, ℤ, ◌≤ℤ◌, unsigned_abs}
use Rattle.std.specs.Int.{int_min, int_max}
use Rattle.ngc_fixed_length.specs.Length.{IsStep}
use Rattle.ngc_arc_geometry.specs.declared.cut.GridArc.TheInside.{Inside}
use Rattle.ngc_arc_geometry.specs.Shape.{ArcShape}
use Rattle.ngc_arc_geometry.specs.Radii.{inner_radius, outer_radius}
use Rattle.ngc_arc_geometry.specs.Swept.{margin, start_height, end_height}

pub record ArcOnGrid : Type 0 where
  pub arc : ArcShape
  pub step : ℤ

abbrev pub arc_on_grid : Inside → ArcOnGrid
arc_on_grid a = record { arc = a.arc; step = a.step }

-- the stored values are those of the arc and the grid
pub record IsArcOnGrid (a : Inside) : Type 0 where
  pub step : IsStep a.step
  pub inner : a.inner ≡ inner_radius a.arc
  pub outer : a.outer ≡ outer_radius a.arc
  pub outer_bound : a.outer ≤ 2000020000
  pub margin : a.margin ≡ margin a.step a.arc
  pub margin_least : a.step ≤ℤ a.margin
  pub margin_bound : unsigned_abs a.margin ≤ 2000120000
  pub low : a.heights.low ≡ int_min (start_height a.step a.arc) (end_height a.step a.arc)
  pub high : a.heights.high ≡ int_max (start_height a.step a.arc) (end_height a.step a.arc)
