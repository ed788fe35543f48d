-- Where a motion may touch material, and how deep at most. A tip is the foot of a disc, or of a part of a tool. Our
-- own.
use Rattle.std.specs.Prelude.{◌≡◌, ℕ, ◌+◌, ◌*◌, ◌-◌, ◌<◌, ◌≤◌, ◌⊎◌, pos, ◌+ℤ◌, List, [], ◌∷◌, length, slice_index, Option, Some, None, if◌then◌else◌, nat_lt}
use Rattle.std.specs.Int.{int_min}
use Rattle.ngc_fixed_length.specs.declared.modes.Plane.TheVariants.{XY}
use Rattle.ngc_fixed_length.specs.declared.points.Point2.{Point2}
use Rattle.ngc_fixed_length.specs.declared.points.Point3.{Point3}
use Rattle.ngc_machine_files.specs.declared.tools.Tool.{Tool}
use Rattle.ngc_arc_geometry.specs.Shape.{ArcShape}
use Rattle.ngc_cells.specs.declared.grid.Grid.{Grid}
use Rattle.ngc_cells.specs.declared.stretch.Stretch.{Stretch}
use Rattle.ngc_cells.specs.Stretches.{IsNear}
use Rattle.ngc_cells.specs.Grids.{centre}
use Rattle.ngc_stock.specs.declared.cylinder.Cylinder.{Cylinder}
use Rattle.ngc_stock.specs.declared.stock.Stock.{Stock}
use Rattle.ngc_stock.specs.Arcs.{IsChord, low_at}
use Rattle.ngc_stock.specs.Feeds.{IsAbove}
use Rattle.ngc_stock.specs.Stocks.{flat, reduction, sigma, tolerance, radius, lowest_part, rise, pieces, piece, point_at, lowest_tip, level_of, from_part}
use Rattle.ngc_stock.specs.Walk.{IsClear, AreDiscsClear}
use Rattle.ngc_material.specs.declared.touch.Touch.{Touch}

-- cell k is near a stretch and higher than a limit, and a tip is d deep in it
pub record IsDeep (g : Grid) (stretch : Stretch) (r limit tip : ℕ) (heights : List ℕ) (k d : ℕ) : Type 0 where
  pub within : k < length heights
  pub near : IsNear stretch r (centre g k)
  pub above : limit < slice_index heights k
  pub depth : d ≡ slice_index heights k - tip

-- cell k is in the way at the end of a traverse to b, and the tip is d deep in it at most
abbrev pub IsAtEnd : Stock → Cylinder → Point3 → List ℕ → ℕ → ℕ → Type 0
IsAtEnd s t b heights k d =
    IsDeep s.grid (point_at b) (radius t - reduction s.grid)
    (level_of s ((b.z +ℤ t.bottom) +ℤ pos (tolerance s.grid))) (level_of s (b.z +ℤ t.bottom)) heights k d

-- the same at a piece of a traverse from a to b
abbrev pub IsAtPiece : Stock → Cylinder → Point3 → Point3 → ℕ → List ℕ → ℕ → ℕ → Type 0
IsAtPiece s t a b i heights k d =
    IsDeep s.grid (piece a b i) (radius t - reduction s.grid)
    (level_of s (lowest_tip t a b i +ℤ pos (tolerance s.grid + 2 * rise a b))) (level_of s (lowest_tip t a b i)) heights k d

-- at the end, or at one of the first n pieces
abbrev pub IsAtFirst : Stock → Cylinder → Point3 → Point3 → ℕ → List ℕ → ℕ → ℕ → Type 0
IsAtFirst s t a b n heights k d =
    IsAtEnd s t b heights k d ⊎ ((i : ℕ) × (i < n) × IsAtPiece s t a b i heights k d)

-- cell k is in the way of a traverse with a disc or a part, which isn't tested if it is thinner than the
-- reduction
pub record IsInWay (s : Stock) (t : Cylinder) (a b : Point3) (heights : List ℕ) (k d : ℕ) : Type 0 where
  pub thick : reduction s.grid ≤ radius t
  pub part : IsAtFirst s t a b (pieces a b) heights k d

-- a touch names the centre of a deepest one of the cells in the way
pub record IsDeepest (g : Grid) (In : ℕ → ℕ → Type 0) (touch : Touch) : Type 0 where
  pub cell : ℕ
  pub found : In cell touch.depth
  pub place : touch.place ≡ centre g cell
  pub greatest : (k d : ℕ) → In k d → d ≤ touch.depth

-- it is in the way of one of the discs
abbrev pub IsInWayOfAny : Stock → List Cylinder → Point3 → Point3 → List ℕ → ℕ → ℕ → Type 0
IsInWayOfAny s [] a b heights k d = ⊥
IsInWayOfAny s (x ∷ xs) a b heights k d = IsInWay s x a b heights k d ⊎ IsInWayOfAny s xs a b heights k d

-- the lowest part of a tool above its cutter that may touch material along a line, and where it is deepest
pub record IsUpperTouch (s : Stock) (t : Tool) (a b : Point3) (heights : List ℕ) (part : ℕ) (touch : Touch) : Type 0 where
  pub above : 0 < part
  pub within : part < length t.parts
  pub lower : (p : ℕ) → 0 < p → p < part → IsClear s (lowest_part (from_part t p)) a b heights
  pub deepest : IsDeepest s.grid (IsInWay s (lowest_part (from_part t part)) a b heights) touch

-- the cutter, which is part 0, may touch material, and the touch is a deepest one of all discs; or else the
-- lowest part above it may
abbrev pub IsFirstTouch : Stock → List Cylinder → Tool → Point3 → Point3 → List ℕ → ℕ → Touch → Type 0
IsFirstTouch s ds t a b heights part touch =
    ((part ≡ 0) × IsDeepest s.grid (IsInWayOfAny s ds a b heights) touch)
    ⊎ (AreDiscsClear s ds a b heights × IsUpperTouch s t a b heights part touch)

-- a part above the cutter may touch material along a chord of an arc, as low as the arc's lower end
pub record IsChordTouch (s : Stock) (t : Tool) (a : ArcShape) (heights : List ℕ) (part : ℕ) (touch : Touch) : Type 0 where
  pub start : Point2
  pub end : Point2
  pub is_chord : IsChord a (sigma s.grid) start end
  pub upper : IsUpperTouch s t (low_at a start) (low_at a end) heights part touch

-- the lowest part whose foot is below the stock's top at the arc's lower end. No chords that follow the arc are
-- known, so the touch has the arc's end, and the depth below the top
pub record IsLowPart (s : Stock) (t : Tool) (a : ArcShape) (part : ℕ) (touch : Touch) : Type 0 where
  pub upper : 0 < part
  pub within : part < length t.parts
  pub lower : (p : ℕ) → 0 < p → p < part → IsAbove s (lowest_part (from_part t p)) a
  pub low : ¬ (IsAbove s (lowest_part (from_part t part)) a)
  pub place : touch.place ≡ flat a.end
  pub depth : touch.depth ≡ s.height - level_of s (int_min a.start.z a.end.z +ℤ (lowest_part (from_part t part)).bottom)

abbrev pub IsArcTouch : Stock → Tool → ArcShape → List ℕ → ℕ → Touch → Type 0
IsArcTouch s t a heights part touch = (a.plane ≡ XY) × (IsChordTouch s t a heights part touch ⊎ IsLowPart s t a part touch)

-- the deeper of two touches; of equal ones the first
abbrev pub deeper : Option Touch → Option Touch → Option Touch
deeper None other = other
deeper (Some one) None = Some one
deeper (Some one) (Some other) = if nat_lt one.depth other.depth then Some other else Some one
