-- The picture of a map of heights, seen from above. Our own.
use Rattle.std.specs.Prelude.{◌≡◌, ℕ, zero, suc, ◌+◌, ◌-◌, ◌*◌, ◌/◌, ◌<◌, ◌≤◌, max, Bool, false, ◌==◌, nat_lt, if◌then◌else◌}
use Rattle.std.specs.Prelude.{List, [], ◌∷◌, ◌++◌, length, slice_index, get_or}
use Rattle.ngc_cells.specs.declared.grid.Grid.{Grid}
use Rattle.ngc_cells.specs.Grids.{IsGrid}
use Rattle.ngc_map_picture.specs.Png.{png}
use Rattle.ngc_map_picture.specs.declared.relief.Relief.{Relief}

-- each cell has a height and a mark, and is a square of pixels
pub record IsRelief (r : Relief) : Type 0 where
  pub grid_of : IsGrid r.grid
  pub columns : 0 < r.grid.columns
  pub rows : 0 < r.grid.rows
  pub least : 0 < r.side
  pub most : r.side ≤ 1000
  pub heights_of : length r.heights.now ≡ r.grid.columns * r.grid.rows
  pub touched_of : length r.touched.now ≡ r.grid.columns * r.grid.rows

-- A usual side of a cell in pixels: the greatest with which the picture is at most 1000 pixels wide
-- and high, or one pixel.
abbrev pub usual_side : Grid → ℕ
usual_side g = max (1000 / max g.columns g.rows) 1

abbrev pub width : Relief → ℕ
width r = r.grid.columns * r.side

abbrev pub height : Relief → ℕ
height r = r.grid.rows * r.side

-- the colours from index 3 up are greys, each as bright as its index
unfoldable pub greys : ℕ → ℕ → List ℕ
greys i zero = []
greys i (suc n) = i ∷ i ∷ i ∷ greys (i + 1) n

-- red, blue, and a dark blue come before them
unfoldable pub palette : List ℕ
palette = 230 ∷ 0 ∷ 0 ∷ 170 ∷ 200 ∷ 230 ∷ 0 ∷ 40 ∷ 110 ∷ greys 3 253

-- A cell that may be touched is red, one without material dark blue, and one as high as the block
-- blue. The others are grey, and the brighter the higher.
abbrev pub shade : ℕ → ℕ → Bool → ℕ
shade top high touched =
    if touched then 0 else (if high == 0 then 2 else (if nat_lt high top then 3 + high * 253 / top else 1))

-- the cell of the pixel at x from the left and y from the top; the top is the side of the greatest Y
abbrev pub cell_at : Relief → ℕ → ℕ → ℕ
cell_at r x y = (r.grid.rows - 1 - y / r.side) * r.grid.columns + x / r.side

abbrev pub pixel : Relief → ℕ → ℕ → ℕ
pixel r x y = shade r.top (slice_index r.heights.now (cell_at r x y)) (get_or r.touched.now (cell_at r x y) false)

-- n pixels of row y, from x on
unfoldable pub pixels : Relief → ℕ → ℕ → ℕ → List ℕ
pixels r y x zero = []
pixels r y x (suc n) = pixel r x y ∷ pixels r y (x + 1) n

-- n rows from y on, each after the byte of no filter
unfoldable pub scanlines : Relief → ℕ → ℕ → List ℕ
scanlines r y zero = []
scanlines r y (suc n) = ((0 ∷ []) ++ pixels r y 0 (width r)) ++ scanlines r (y + 1) n

unfoldable pub map_picture : Relief → List ℕ
map_picture r = png (width r) (height r) palette (scanlines r 0 (height r))
