-- Quotients by a step, in 64 and 128 bits.
use Rattle.std.proofs.Common.{◌≡◌, ℕ, ◌+◌, ◌*◌, ◌/◌, ◌≤◌, ℤ, pos, negsuc, ◌≤ℤ◌, unsigned_abs, to_z, of_z, arith}
use Rattle.std.specs.Int.{int_div_euclid, w64, w128}
use Rattle.std.proofs.lemmas.Int.{ints}
use Rattle.std.proofs.lemmas.Nat.{mul-le, div-add-mod'}

size_of_quotient : (a n : ℕ) → 32768000 ≤ n → a / n * 32768000 ≤ a
size_of_quotient a n least =
    let whole = div-add-mod' a n in
    let p : a / n * 32768000 ≤ a / n * n = mul-le (a / n) 32768000 (a / n) n (omega arith) least in
    omega arith

pub quotient_size : (z s : ℤ) → pos 32768000 ≤ℤ s → unsigned_abs (int_div_euclid z s) * 32768000 ≤ unsigned_abs z + 32768000
quotient_size (pos a) (pos n) least = let q = size_of_quotient a n (omega (arith, ints, least)) in omega arith
quotient_size (negsuc a) (pos n) least = let q = size_of_quotient a n (omega (arith, ints, least)) in omega arith
quotient_size z (negsuc n) least = absurd (omega (arith, ints, least))

pub kept : (q : ℤ) (n : ℕ) → unsigned_abs q * 32768000 ≤ n + 32768000 → n ≤ 1000000000000000000000 → to_z w64 (of_z w64 (to_z w128 (of_z w128 q))) ≡ q
kept q n size small = let wide : to_z w128 (of_z w128 q) ≡ q = omega (arith, ints) in rw wide (omega (arith, ints))
