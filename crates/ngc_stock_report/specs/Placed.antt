-- The block of material of a machine file, in cells of the machine. Our own.
use Rattle.std.specs.Prelude.{◌≡◌, ℕ, ◌*◌, ◌-◌, ◌<◌, ◌≤◌, ◌==◌, nat_le, ℤ, ◌+ℤ◌, ◌-ℤ◌, unsigned_abs, slice_get, Option, Some, None, Bool, IsTrue, if◌then◌else◌}
use Rattle.std.specs.Int.{div_ceil}
use Rattle.ngc_fixed_length.specs.Places.{zero_point}
use Rattle.ngc_fixed_length.specs.declared.points.Point3.{Point3}
use Rattle.ngc_machine_files.specs.Machine.{MachineFile}
use Rattle.ngc_machine_files.specs.declared.machine.StockBox.{StockBox}
use Rattle.ngc_cells.specs.Stretches.{spot}
use Rattle.ngc_stock.specs.declared.stock.Stock.{Stock}

-- ---- where it is

abbrev pub or_zero : Option Point3 → Point3
or_zero None = zero_point
or_zero (Some p) = p

-- the origin of a coordinate system, 1 to 9, and the machine's zero for 0
abbrev pub origin_at : MachineFile → ℕ → Point3
origin_at m n = if n == 0 then zero_point else or_zero (slice_get m.origins (n - 1))

-- ---- its cells

abbrev pub side : ℤ → ℤ → ℕ
side low high = unsigned_abs (high -ℤ low)

-- the number of cells, each twice `half` wide, that cover a length
abbrev pub cells_along : ℕ → ℕ → ℕ
cells_along half length = div_ceil length (2 * half)

-- the number of cells unless another one is requested
abbrev pub USUAL_CELLS : ℕ
USUAL_CELLS = 250000

-- at most `most` of these cells cover the block
abbrev pub is_covered : ℕ → ℕ → StockBox → Bool
is_covered most half b =
    nat_le (cells_along half (side b.low.x b.high.x) * cells_along half (side b.low.y b.high.y)) most

-- half the width of a cell, which is a multiple of 0.01 mm
abbrev pub half_of : ℕ → ℕ
half_of number = 5000 * number

-- as wide as any block: two metres
abbrev pub WIDEST : ℕ
WIDEST = 200000

-- the least width at which at most `most` cells cover the block; none is tried beyond two metres
pub record IsLeast (most : ℕ) (b : StockBox) (number : ℕ) : Type 0 where
  pub some : 0 < number
  pub within : number ≤ WIDEST
  pub covered : number < WIDEST → IsTrue (is_covered most (half_of number) b)
  pub least : (k : ℕ) → 0 < k → k < number → ¬ (IsTrue (is_covered most (half_of k) b))

-- the block in the machine, with its system's origin and the half width of its cells
abbrev pub placed : Point3 → StockBox → ℕ → Stock
placed origin b half =
    record {
      grid = record {
        corner = spot (origin.x +ℤ b.low.x) (origin.y +ℤ b.low.y);
        half = half;
        columns = cells_along half (side b.low.x b.high.x);
        rows = cells_along half (side b.low.y b.high.y);
      };
      bottom = origin.z +ℤ b.low.z;
      height = side b.low.z b.high.z;
    }

-- a machine's block of material, in the machine, in at most `most` cells
pub record IsPlaced (most : ℕ) (m : MachineFile) (s : Stock) : Type 0 where
  pub block : StockBox
  pub is_block : m.stock ≡ Some block
  pub number : ℕ
  pub width : IsLeast most block number
  pub stock : s ≡ placed (origin_at m block.system) block (half_of number)
