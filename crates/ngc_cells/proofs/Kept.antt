-- Sums and differences of small numbers that fit.
use Rattle.std.proofs.Common.{◌≡◌, ◌≤◌, ◌^◌, ℤ, ◌+ℤ◌, ◌-ℤ◌, unsigned_abs, to_z, of_z, arith}
use Rattle.std.specs.Int.{w64, w128}
use Rattle.std.proofs.lemmas.Int.{ints, to_z-of_z, fits_signed_from_abs}

pub kept64 : (z : ℤ) → unsigned_abs z ≤ 2 ^ 61 → to_z w64 (of_z w64 z) ≡ z
kept64 z h = to_z-of_z w64 z (fits_signed_from_abs w64 z (omega arith))

pub kept128 : (z : ℤ) → unsigned_abs z ≤ 2 ^ 121 → to_z w128 (of_z w128 z) ≡ z
kept128 z h = to_z-of_z w128 z (fits_signed_from_abs w128 z (omega arith))

pub less64 : (a b : ℤ) → unsigned_abs a ≤ 2 ^ 60 → unsigned_abs b ≤ 2 ^ 60 → to_z w64 (of_z w64 (to_z w64 (of_z w64 a) -ℤ to_z w64 (of_z w64 b))) ≡ a -ℤ b
less64 a b h i =
    let p = kept64 a (omega arith) in
    let q = kept64 b (omega arith) in
    rw (p, q) (kept64 (a -ℤ b) (omega (arith, ints)))

pub plus64 : (a b : ℤ) → unsigned_abs a ≤ 2 ^ 60 → unsigned_abs b ≤ 2 ^ 60 → to_z w64 (of_z w64 (to_z w64 (of_z w64 a) +ℤ to_z w64 (of_z w64 b))) ≡ a +ℤ b
plus64 a b h i =
    let p = kept64 a (omega arith) in
    let q = kept64 b (omega arith) in
    rw (p, q) (kept64 (a +ℤ b) (omega (arith, ints)))

pub less128 : (a b : ℤ) → unsigned_abs a ≤ 2 ^ 120 → unsigned_abs b ≤ 2 ^ 120 → to_z w128 (of_z w128 (to_z w128 (of_z w128 a) -ℤ to_z w128 (of_z w128 b))) ≡ a -ℤ b
less128 a b h i =
    let p = kept128 a (omega arith) in
    let q = kept128 b (omega arith) in
    rw (p, q) (kept128 (a -ℤ b) (omega (arith, ints)))

pub plus128 : (a b : ℤ) → unsigned_abs a ≤ 2 ^ 120 → unsigned_abs b ≤ 2 ^ 120 → to_z w128 (of_z w128 (to_z w128 (of_z w128 a) +ℤ to_z w128 (of_z w128 b))) ≡ a +ℤ b
plus128 a b h i =
    let p = kept128 a (omega arith) in
    let q = kept128 b (omega arith) in
    rw (p, q) (kept128 (a +ℤ b) (omega (arith, ints)))
