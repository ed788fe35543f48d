-- Some cells cover a block of material.
use Rattle.std.proofs.Common.{ℕ, zero, suc, ◌*◌, ◌<◌, ◌≤◌, ℤ, ◌<ℤ◌, arith}
use Rattle.std.proofs.lemmas.Int.{ints}
use Rattle.std.proofs.lemmas.Grind.{div_ceil_times}
use Rattle.ngc_fixed_length.specs.declared.points.Point3.{Point3}
use Rattle.ngc_machine_files.specs.Ranges.{IsBelow}
use Rattle.ngc_machine_files.specs.declared.machine.StockBox.{StockBox}
use Rattle.ngc_stock_report.specs.Placed.{cells_along, placed, side}

over_zero : (n b length : ℕ) → length ≤ n * b → 0 < length → 0 < n
over_zero zero b length h some = absurd (omega (arith, h, some))
over_zero (suc n) b length h some = omega arith

pub some_cells : (half length : ℕ) → 0 < half → 0 < length → 0 < cells_along half length
some_cells half length wide some =
    over_zero (cells_along half length) (2 * half) length (div_ceil_times length (2 * half) (omega (arith, wide))).0 some

some_side : (low high : ℤ) → low <ℤ high → 0 < side low high
some_side low high h = omega (arith, ints, h)

pub placed_cells : (origin : Point3) (b : StockBox) (half : ℕ) → 0 < half → IsBelow b.low b.high →
    (0 < (placed origin b half).grid.columns) × (0 < (placed origin b half).grid.rows)
placed_cells origin b half wide below = (
  some_cells half (side b.low.x b.high.x) wide (some_side b.low.x b.high.x below.x),
  some_cells half (side b.low.y b.high.y) wide (some_side b.low.y b.high.y below.y),
)
