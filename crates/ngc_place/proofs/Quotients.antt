-- Quotients by a step, and their conversion to 32 bits.
use Rattle.std.proofs.Common.{◌≡◌, ◌+◌, ◌*◌, ◌/◌, ◌≤◌, ℤ, pos, negsuc, ◌+ℤ◌, ◌-ℤ◌, ◌*ℤ◌, ◌≤ℤ◌, unsigned_abs, to_z, of_z, arith, inl, inr}
use Rattle.std.specs.Int.{int_div_euclid, w32, w64}
use Rattle.std.proofs.lemmas.Int.{ints, unsigned_abs-mul}
use Rattle.std.proofs.lemmas.Bool.{cases_lt}
use Rattle.std.proofs.Math.Nat.{div-le_of_le-mul, mul-le-mul_left}
use Rattle.ngc_fixed_length.specs.Length.{IsStep}
use Rattle.ngc_fixed_length.specs.declared.points.StepPos.{StepPos}

pub quotient_size : (z s : ℤ) → pos 500 ≤ℤ s → unsigned_abs z ≤ 2000000000 * unsigned_abs s → unsigned_abs (int_div_euclid z s) ≤ 2000000001
quotient_size (pos a) (pos n) least small =
    let q : a / n ≤ 2000000000 = div-le_of_le-mul n {m = a} {n = 2000000000} (omega (arith, small)) in omega (arith, q)
quotient_size (negsuc a) (pos n) least small =
    let q : a / n ≤ 2000000000 = div-le_of_le-mul n {m = a} {n = 2000000000} (omega (arith, small)) in omega (arith, q)
quotient_size z (negsuc n) least small = absurd (omega (arith, ints, least))

pub kept : (q : ℤ) → unsigned_abs q ≤ 2000000001 → to_z w32 (of_z w32 (to_z w64 (of_z w64 q))) ≡ q
kept q small = let wide : to_z w64 (of_z w64 q) ≡ q = omega (arith, ints) in rw wide (omega (arith, ints))

-- the nearest grid point of a coordinate in range fits in 32 bits
pub grid_bound : (x s r : ℤ) → IsStep s → unsigned_abs x ≤ 300000000000 → 2 * unsigned_abs (x -ℤ (r *ℤ s)) ≤ unsigned_abs s →
    unsigned_abs r ≤ 600000000
grid_bound x s r range small near =
    let size : unsigned_abs (r *ℤ s) ≤ unsigned_abs x + unsigned_abs (x -ℤ (r *ℤ s)) = omega (arith, ints) in
    let least : 500 ≤ unsigned_abs s = omega (arith, ints, range.least) in
    elim (cases_lt 600000000 (unsigned_abs r)) [
      | inl h ↦ (let p : unsigned_abs s * 600000001 ≤ unsigned_abs s * unsigned_abs r = mul-le-mul_left (unsigned_abs s) (omega arith) in
          absurd (omega (arith, unsigned_abs-mul r s)))
      | inr h ↦ h
    ]

-- sums and differences fit in 64 bits
pub sum_kept : (x y : ℤ) → unsigned_abs x ≤ 1000000000000000000 → unsigned_abs y ≤ 1000000000000000000 →
    to_z w64 (of_z w64 (to_z w64 (of_z w64 x) +ℤ to_z w64 (of_z w64 y))) ≡ x +ℤ y
sum_kept x y small short = omega (arith, ints)

pub difference_kept : (x y : ℤ) → unsigned_abs x ≤ 1000000000000000000 → unsigned_abs y ≤ 1000000000000000000 →
    to_z w64 (of_z w64 (to_z w64 (of_z w64 x) -ℤ to_z w64 (of_z w64 y))) ≡ x -ℤ y
difference_kept x y small short = omega (arith, ints)

-- points with equal coordinates are equal
pub corner_is : (x y z u v w : ℤ) → x ≡ u → y ≡ v → z ≡ w →
    (let p : StepPos = record { x = x; y = y; z = z } in p) ≡ (let q : StepPos = record { x = u; y = v; z = w } in q)
corner_is x y z u v w e f g = rw (e, f, g)
