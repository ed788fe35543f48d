-- A coordinate of a displacement fits in 64 bits.
use Rattle.std.proofs.Common.{◌≡◌, ◌*◌, ◌^◌, ◌≤◌, ℤ, ◌+ℤ◌, eqb, unsigned_abs, to_z, of_z, arith}
use Rattle.std.specs.Int.{w64, w128}
use Rattle.std.proofs.lemmas.Int.{ints}
use Rattle.std.proofs.lemmas.Bool.Decides.{nat_tests}
use Rattle.ngc_fixed_length.specs.Signed.{same}

pub kept : (z : ℤ) → unsigned_abs z ≤ 200000000000 → to_z w64 (of_z w64 z) ≡ z
kept z small = omega (arith, ints)

-- a sum of three products fits in 128 bits
pub kept_sum : (a b c : ℤ) → unsigned_abs a ≤ 4 * 10 ^ 22 → unsigned_abs b ≤ 4 * 10 ^ 22 → unsigned_abs c ≤ 4 * 10 ^ 22 →
    to_z w128 (of_z w128 (to_z w128 (of_z w128 (to_z w128 (of_z w128 a) +ℤ to_z w128 (of_z w128 b))) +ℤ to_z w128 (of_z w128 c))) ≡ a +ℤ b +ℤ c
kept_sum a b c p q r = omega (arith, ints)

-- two 128-bit products are equal if their bits are
pub same_bits : (a b : ℤ) → unsigned_abs a ≤ 4 * 10 ^ 22 → unsigned_abs b ≤ 4 * 10 ^ 22 → eqb (of_z w128 a) (of_z w128 b) ≡ same a b
same_bits a b p q = grind (arith, ints, nat_tests)
