-- The views, and where a point of the machine is in them. Our own.
use Rattle.std.specs.Prelude.{ℤ, pos, ◌+ℤ◌, ◌-ℤ◌, ◌*ℤ◌, Bool, true, false, ◌&&◌}
use Rattle.std.specs.Ordering.{int_eq}
use Rattle.std.specs.Int.{int_min, int_max}
use Rattle.ngc_fixed_length.specs.Rounding.{nearest}
use Rattle.ngc_fixed_length.specs.declared.modes.Plane.{Plane}
use Rattle.ngc_fixed_length.specs.declared.modes.Plane.TheVariants.{XY, ZX, YZ}
use Rattle.ngc_fixed_length.specs.declared.points.Point3.{Point3}
use Rattle.ngc_picture_shapes.specs.declared.eye.Eye.{Eye}
use Rattle.ngc_picture_shapes.specs.declared.view.View.{View}
use Rattle.ngc_picture_shapes.specs.declared.view.View.TheVariants.{Top, Front, Side, Iso}
use Rattle.ngc_picture_shapes.specs.declared.spot.Spot.{Spot}
use Rattle.ngc_picture_shapes.specs.declared.spot.Block.{Block}
use Rattle.ngc_picture_shapes.specs.declared.spot.Rectangle.{Rectangle}

-- a length in nanometres, to the nearest micrometre
abbrev pub micrometres : ℤ → ℤ
micrometres nanometres = nearest nanometres (pos 1000)

-- the projection that is called isometric, our own: X and Y have the slope 1:2, X up to the right and
-- Y up to the left, and Z is vertical; a length along X or Y is seen with its whole size across and
-- half of it up, and a length along Z with its whole size
abbrev pub isometric : Point3 → Spot
isometric p = record {
  across = micrometres (p.x -ℤ p.y);
  up = nearest ((p.x +ℤ p.y) +ℤ (pos 2 *ℤ p.z)) (pos 2000);
}

-- X to the right and Y up from the top, X and Z from the front, Y and Z from the side
abbrev pub spot : View → Point3 → Spot
spot Top p = record { across = micrometres p.x; up = micrometres p.y }
spot Front p = record { across = micrometres p.x; up = micrometres p.z }
spot Side p = record { across = micrometres p.y; up = micrometres p.z }
spot Iso p = isometric p

-- where the tip of the tool is while the spindle nose is at a point: the tip is `tip` nanometres
-- higher, so lower where that is below 0
abbrev pub tip_at : ℤ → Point3 → Point3
tip_at tip p = record { x = p.x; y = p.y; z = p.z +ℤ tip }

-- where the tip is seen while the spindle nose is at a point
abbrev pub tip_spot : Eye → Point3 → Spot
tip_spot eye p = spot eye.view (tip_at eye.tip p)

-- the plane that a view sees without shortening
abbrev pub faces : View → Plane → Bool
faces Top XY = true
faces Front ZX = true
faces Side YZ = true
faces _ _ = false

abbrev pub is_same : Spot → Spot → Bool
is_same p q = int_eq p.across q.across && int_eq p.up q.up

-- the corners of a box of which the isometric view shows three faces: the near edge from bottom to
-- top, the edges at the right and at the left, and the far corner of the top
abbrev pub block : Point3 → Point3 → Block
block low high = record {
  near = isometric low;
  near_top = isometric (record { x = low.x; y = low.y; z = high.z });
  right = isometric (record { x = high.x; y = low.y; z = low.z });
  right_top = isometric (record { x = high.x; y = low.y; z = high.z });
  left = isometric (record { x = low.x; y = high.y; z = low.z });
  left_top = isometric (record { x = low.x; y = high.y; z = high.z });
  far_top = isometric high;
}

-- the smallest rectangle that holds a box with these corners
abbrev pub rectangle : View → Point3 → Point3 → Rectangle
rectangle Iso low high = record {
  low = record { across = micrometres (low.x -ℤ high.y); up = (isometric low).up };
  high = record { across = micrometres (high.x -ℤ low.y); up = (isometric high).up };
}
rectangle view low high = record { low = spot view low; high = spot view high }

-- the smallest rectangle that holds another and a spot
abbrev pub holding : Rectangle → Spot → Rectangle
holding r p = record {
  low = record { across = int_min r.low.across p.across; up = int_min r.low.up p.up };
  high = record { across = int_max r.high.across p.across; up = int_max r.high.up p.up };
}
