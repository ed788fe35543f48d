-- Sums and products in 128 bits.
use Rattle.std.proofs.Common.{◌≡◌, ℕ, ◌*◌, ◌<◌, ◌≤◌, ℤ, pos, ◌+ℤ◌, ◌-ℤ◌, ◌*ℤ◌, unsigned_abs, to_z, of_z, arith, lit<, FitsSigned}
use Rattle.std.specs.Int.{w32, w64, w128}
use Rattle.std.proofs.lemmas.Int.{ints, to_z-of_z, fits_signed_mul, unsigned_abs-mul}
use Rattle.std.proofs.lemmas.Nat.{mul-le}

pub sum_kept : (x y : ℤ) → unsigned_abs x ≤ 1000000000000000000000 → unsigned_abs y ≤ 1000000000000000000000 →
    to_z w128 (of_z w128 (to_z w128 (of_z w128 x) +ℤ to_z w128 (of_z w128 y))) ≡ x +ℤ y
sum_kept x y small short = omega (arith, ints)

pub difference_kept : (x y : ℤ) → unsigned_abs x ≤ 1000000000000000000000 → unsigned_abs y ≤ 1000000000000000000000 →
    to_z w128 (of_z w128 (to_z w128 (of_z w128 x) -ℤ to_z w128 (of_z w128 y))) ≡ x -ℤ y
difference_kept x y small short = omega (arith, ints)

-- a distance of at most 200 metres, times a number of parts
pub part_size : (way : ℤ) (part : ℕ) → unsigned_abs way ≤ 200000000000 → unsigned_abs (way *ℤ pos part) ≤ 200000000000 * part
part_size way part small =
    let size : unsigned_abs way * part ≤ 200000000000 * part = mul-le (unsigned_abs way) part 200000000000 part small (omega arith) in
    rw (unsigned_abs-mul way (pos part)) size

pub part_kept : (way : ℤ) (part : ℕ) → unsigned_abs way ≤ 200000000000 → part < 4294967296 →
    to_z w128 (of_z w128 (to_z w128 (of_z w128 way) *ℤ to_z w128 (of_z w128 (pos part)))) ≡ way *ℤ pos part
part_kept way part small fits =
    let left : to_z w128 (of_z w128 way) ≡ way = omega (arith, ints) in
    let right : to_z w128 (of_z w128 (pos part)) ≡ pos part = omega (arith, ints) in
    rw (left, right) (to_z-of_z w128 (way *ℤ pos part) (fits_signed_mul w128 way (pos part) 200000000000 4294967296 small (omega arith) (lit< tt)))

-- a number that fits in 32 bits is unchanged in 64
pub narrow_kept : (z : ℤ) → FitsSigned w32 z → FitsSigned w32 (to_z w64 (of_z w64 z))
narrow_kept z fits = omega (arith, ints)
