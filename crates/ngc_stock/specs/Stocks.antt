-- A stock, and what of it the cutters of feeds reach. Our own.
use Rattle.std.specs.Prelude.{ℕ, ◌+◌, ◌*◌, ◌-◌, ◌/◌, ◌≤◌, ◌<◌, min, ℤ, pos, negsuc, neg_ℤ, ◌+ℤ◌, ◌-ℤ◌, ◌*ℤ◌, ◌≤ℤ◌, ◌<ℤ◌, unsigned_abs, drop, zero, suc, List, [], ◌∷◌, Bool, ◌&&◌, not, if◌then◌else◌}
use Rattle.std.specs.Int.{int_div_euclid, int_min, int_max}
use Rattle.ngc_fixed_length.specs.Limits.{LENGTH_LIMIT}
use Rattle.ngc_fixed_length.specs.Roots.{whole_root_above}
use Rattle.ngc_fixed_length.specs.Signed.{same}
use Rattle.ngc_fixed_length.specs.declared.points.Point3.{Point3}
use Rattle.ngc_machine_files.specs.declared.parts.Part.{Part}
use Rattle.ngc_machine_files.specs.declared.tools.Tool.{Tool}
use Rattle.ngc_machine_files.specs.Parts.{unused}
use Rattle.ngc_cells.specs.declared.grid.Grid.{Grid}
use Rattle.ngc_cells.specs.declared.stretch.Spot.{Spot}
use Rattle.ngc_cells.specs.declared.stretch.Stretch.{Stretch}
use Rattle.ngc_cells.specs.Stretches.{RADIUS_LIMIT, IsAround, spot}
use Rattle.ngc_cells.specs.Grids.{centre}
use Rattle.ngc_stock.specs.declared.cylinder.Cylinder.{Cylinder}
use Rattle.ngc_stock.specs.declared.stock.Stock.{Stock}

-- ---- the stock

-- half the diagonal of a cell, rounded up
abbrev pub kappa : Grid → ℕ
kappa g = whole_root_above (2 * (g.half * g.half))

-- the room for the chords of arcs
abbrev pub sigma : Grid → ℕ
sigma g = g.half / 16 + 2

-- how much smaller the cutter is that is tested; and for which points that is a proof
abbrev pub reduction : Grid → ℕ
reduction g = kappa g + sigma g

abbrev pub margin : Grid → ℕ
margin g = 2 * kappa g + sigma g

-- how far below the material's surface a traverse may be and isn't reported: 0.01 mm, and more for
-- the chords of arcs
abbrev pub tolerance : Grid → ℕ
tolerance g = 10000 + 2 * sigma g

pub record IsInCell (g : Grid) (k : ℕ) (q : Point3) : Type 0 where
  pub x : unsigned_abs (q.x -ℤ (centre g k).x) ≤ g.half
  pub y : unsigned_abs (q.y -ℤ (centre g k).y) ≤ g.half

-- the stock is its cells, from its bottom up
pub record IsInStock (s : Stock) (q : Point3) : Type 0 where
  pub cell : ℕ
  pub within : cell < s.grid.columns * s.grid.rows
  pub in_cell : IsInCell s.grid cell q
  pub bottom : s.bottom ≤ℤ q.z
  pub top : q.z <ℤ (s.bottom +ℤ pos s.height)

-- ---- a tool is cylinders about its axis, each from its foot up

-- no cylinder has a radius over the limit
abbrev pub radius : Cylinder → ℕ
radius t = min RADIUS_LIMIT t.radius

abbrev pub first_part : List Part → Part
first_part [] = unused
first_part (p ∷ ps) = p

-- the lowest part of a tool, from its tip up
abbrev pub lowest_part : Tool → Cylinder
lowest_part t = record { bottom = t.bottom; radius = unsigned_abs (first_part t.parts).radius }

-- ---- the parts above the cutter: the shank and the holder

-- a tool without its lowest part: the part above it is then the lowest; no foot is over the limit
abbrev pub above : Tool → Tool
above t = record t {
  bottom = int_min (pos LENGTH_LIMIT) (t.bottom +ℤ pos (unsigned_abs (first_part t.parts).length));
  parts = drop 1 t.parts;
}

-- a tool from part p up; the parts count from 0, which is the cutter
abbrev pub from_part : Tool → ℕ → Tool
from_part t zero = t
from_part t (suc p) = above (from_part t p)

-- ---- what a cylinder covers, as it is or as a part of a cutter

abbrev pub flat : Point3 → Spot
flat p = spot p.x p.y

-- n times the height of the foot at the point at k/n of the line from a to b; a tip, below, is the foot of
-- a cylinder
abbrev pub tip : Cylinder → ℕ → ℕ → Point3 → Point3 → ℤ
tip t n k a b = (pos n *ℤ (a.z +ℤ t.bottom)) +ℤ (pos k *ℤ (b.z -ℤ a.z))

-- at some point of the line the cylinder is over q, with its foot at most as high as q
pub record IsCutBy (t : Cylinder) (a b q : Point3) : Type 0 where
  pub n : ℕ
  pub k : ℕ
  pub some : 0 < n
  pub within : k ≤ n
  pub around : IsAround n k (flat a) (flat b) (radius t) (flat q)
  pub low : tip t n k a b ≤ℤ (pos n *ℤ q.z)

-- at k/n of the line q is in the cylinder, made smaller by a margin and raised
pub record IsInReduced (t : Cylinder) (a b : Point3) (less raise n k : ℕ) (q : Point3) : Type 0 where
  pub fits : less ≤ radius t
  pub around : IsAround n k (flat a) (flat b) (radius t - less) (flat q)
  pub low : (tip t n k a b +ℤ pos (n * raise)) ≤ℤ (pos n *ℤ q.z)

-- ---- pieces of a line: one, or for a slope pieces of at most 0.05 mm in height, but at most 1,000

abbrev pub height_of : Point3 → Point3 → ℕ
height_of a b = unsigned_abs (b.z -ℤ a.z)

abbrev pub is_slope : Point3 → Point3 → Bool
is_slope a b = not (same a.z b.z) && not (same a.x b.x && same a.y b.y)

abbrev pub pieces : Point3 → Point3 → ℕ
pieces a b = if is_slope a b then min 1000 (height_of a b / 50000 + 1) else 1

-- how much higher one end of a piece is than the other, rounded up; 0 if the line is level or upright
abbrev pub rise : Point3 → Point3 → ℕ
rise a b = if is_slope a b then height_of a b / pieces a b + 1 else 0

abbrev pub piece : Point3 → Point3 → ℕ → Stretch
piece a b k = record { start = flat a; end = flat b; parts = pieces a b; part = k }

abbrev pub point_at : Point3 → Stretch
point_at p = record { start = flat p; end = flat p; parts = 1; part = 0 }

-- the heights of the tip at the higher and at the lower end of a piece, rounded up and down
abbrev pub highest_tip : Cylinder → Point3 → Point3 → ℕ → ℤ
highest_tip t a b k =
    neg_ℤ (int_div_euclid (neg_ℤ (int_max (tip t (pieces a b) k a b) (tip t (pieces a b) (k + 1) a b))) (pos (pieces a b)))

abbrev pub lowest_tip : Cylinder → Point3 → Point3 → ℕ → ℤ
lowest_tip t a b k =
    int_div_euclid (int_min (tip t (pieces a b) k a b) (tip t (pieces a b) (k + 1) a b)) (pos (pieces a b))

-- a height of the machine as one above the stock's bottom, from there to its top
abbrev pub natural_of : ℤ → ℕ
natural_of (pos n) = n
natural_of (negsuc n) = 0

abbrev pub level_of : Stock → ℤ → ℕ
level_of s z = min s.height (natural_of (z -ℤ s.bottom))
