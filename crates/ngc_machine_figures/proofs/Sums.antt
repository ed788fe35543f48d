-- Sums of lengths of corners fit in 64 bits.
use Rattle.std.proofs.Common.{◌≡◌, ◌≤◌, ℤ, ◌+ℤ◌, unsigned_abs, arith, to_z, of_z}
use Rattle.std.specs.Int.{w64}
use Rattle.std.proofs.lemmas.Int.{ints}

pub fitting : (a b : ℤ) → unsigned_abs a ≤ 4000000000 → unsigned_abs b ≤ 4000000000 → to_z w64 (of_z w64 (to_z w64 (of_z w64 a) +ℤ to_z w64 (of_z w64 b))) ≡ a +ℤ b
fitting a b h k =
    let first : to_z w64 (of_z w64 a) ≡ a = omega (arith, ints, h) in
    let second : to_z w64 (of_z w64 b) ≡ b = omega (arith, ints, k) in
    rw (first, second) (omega (arith, ints, h, k))
