-- Square cells over a rectangle, and the heights that material can have in them. Our own.
use Rattle.std.specs.Prelude.{◌≡◌, ℕ, ◌+◌, ◌*◌, ◌/◌, ◌%◌, ◌≤◌, ◌<◌, min, ℤ, pos, ◌+ℤ◌, ◌≤ℤ◌, unsigned_abs, List, length, slice_index}
use Rattle.ngc_cells.specs.declared.grid.Grid.{Grid}
use Rattle.ngc_cells.specs.declared.cells.Peak.{Peak}
use Rattle.ngc_cells.specs.declared.stretch.Spot.{Spot}
use Rattle.ngc_cells.specs.declared.stretch.Stretch.{Stretch}
use Rattle.ngc_cells.specs.Stretches.{REACH, IsNear, spot}

abbrev pub CELL_LIMIT : ℕ
CELL_LIMIT = 4000000

-- the cells lie within two metres of the machine's zero
pub record IsGrid (g : Grid) : Type 0 where
  pub half : 0 < g.half
  pub wide : g.half ≤ REACH
  pub count : g.columns * g.rows ≤ CELL_LIMIT
  pub x : unsigned_abs g.corner.x ≤ REACH
  pub y : unsigned_abs g.corner.y ≤ REACH
  pub end_x : (g.corner.x +ℤ pos (2 * g.columns * g.half)) ≤ℤ pos REACH
  pub end_y : (g.corner.y +ℤ pos (2 * g.rows * g.half)) ≤ℤ pos REACH

-- the middle of the cell at an index, along an axis
abbrev pub middle_of : ℤ → ℕ → ℕ → ℤ
middle_of corner half i = corner +ℤ pos ((2 * i + 1) * half)

-- the centre of cell k; the cells of a row follow each other
abbrev pub centre : Grid → ℕ → Spot
centre g k = spot (middle_of g.corner.x g.half (k % g.columns)) (middle_of g.corner.y g.half (k / g.columns))

-- a cell whose centre is near is lowered to the level at most, any other keeps its height
pub record IsLowered (g : Grid) (s : Stretch) (r level k old new : ℕ) : Type 0 where
  pub near : IsNear s r (centre g k) → new ≡ min old level
  pub other : ¬ (IsNear s r (centre g k)) → new ≡ old

pub record AreLowered (g : Grid) (s : Stretch) (r level : ℕ) (old new : List ℕ) : Type 0 where
  pub count : length new ≡ length old
  pub each : (k : ℕ) → k < length old → IsLowered g s r level k (slice_index old k) (slice_index new k)

-- no cell whose centre is near is higher than the level
abbrev pub AreBelow : Grid → Stretch → ℕ → ℕ → List ℕ → Type 0
AreBelow g s r level heights = (k : ℕ) → k < length heights → IsNear s r (centre g k) → slice_index heights k ≤ level

-- a peak is one of the first cells, its centre is near, and its height is that of the cell
pub record IsNearPeak (g : Grid) (s : Stretch) (r : ℕ) (heights : List ℕ) (count : ℕ) (p : Peak) : Type 0 where
  pub cell : p.cell < count
  pub near : IsNear s r (centre g p.cell)
  pub height : p.height ≡ slice_index heights p.cell

-- a highest one of the cells whose centre is near, higher than the level
pub record IsPeak (g : Grid) (s : Stretch) (r level : ℕ) (heights : List ℕ) (p : Peak) : Type 0 where
  pub found : IsNearPeak g s r heights (length heights) p
  pub above : level < p.height
  pub greatest : AreBelow g s r p.height heights

-- a peak is a cell from the first to the one before the end, with its height
pub record IsFoundIn (heights : List ℕ) (first end : ℕ) (p : Peak) : Type 0 where
  pub least : first ≤ p.cell
  pub most : p.cell < end
  pub height : p.height ≡ slice_index heights p.cell
