-- Spans of coordinates, and the grid points inside them.
use Rattle.std.proofs.Common.{◌≡◌, ℕ, suc, ◌+◌, ◌*◌, ◌≤◌, ◌<◌, ℤ, pos, negsuc, ◌+ℤ◌, ◌-ℤ◌, ◌*ℤ◌, ◌≤ℤ◌, unsigned_abs, to_z, of_z, arith}
use Rattle.std.specs.Int.{int_min, int_max, w64}
use Rattle.std.proofs.lemmas.Int.{ints, clamps}
use borrow.Author.Differences.{neg_is}
use Rattle.ngc_fixed_length.specs.Length.{IsStep}
use Rattle.ngc_arc_geometry.proofs.ChordLemmas.{without_factor}

pub int_min_bound : (x y : ℤ) (n : ℕ) → unsigned_abs x ≤ n → unsigned_abs y ≤ n → unsigned_abs (int_min x y) ≤ n
int_min_bound x y n hx hy = omega (arith, ints, clamps)

pub int_max_bound : (x y : ℤ) (n : ℕ) → unsigned_abs x ≤ n → unsigned_abs y ≤ n → unsigned_abs (int_max x y) ≤ n
int_max_bound x y n hx hy = omega (arith, ints, clamps)

-- a coordinate is unchanged in 64 bits
pub kept_coordinate : (z : ℤ) → unsigned_abs z ≤ 110000000000 → to_z w64 (of_z w64 z) ≡ z
kept_coordinate z small = omega (arith, ints)

-- a factor above 0 cancels
int_without_factor : (a b : ℤ) (n : ℕ) → 0 < n → (a *ℤ pos n) ≤ℤ (b *ℤ pos n) → a ≤ℤ b
int_without_factor (pos a) (pos b) n positive h =
    let p : n * a ≤ n * b = omega (arith, ints, h) in
    let q = without_factor n a b positive p in
    omega (arith, ints, q)
int_without_factor (pos a) (negsuc b) n positive h =
    let e = neg_is (pos (suc b * n)) in
    let p : suc b * n ≡ b * n + n = omega arith in
    absurd (omega (arith, ints, h, e.0, e.1, p))
int_without_factor (negsuc a) (pos b) n positive h = omega (arith, ints)
int_without_factor (negsuc a) (negsuc b) n positive h =
    let e = neg_is (pos (suc b * n)) in
    let f = neg_is (pos (suc a * n)) in
    let p : n * suc b ≤ n * suc a = omega (arith, ints, h, e.0, e.1, f.0, f.1) in
    let q = without_factor n (suc b) (suc a) positive p in
    omega (arith, ints, q)

-- the first grid point is not after the last if the bounds are two steps apart
pub ordered : (low high s first last : ℤ) → IsStep s → (low +ℤ s +ℤ s) ≤ℤ high → ((first *ℤ s) -ℤ low) ≤ℤ s → (high -ℤ (last *ℤ s)) ≤ℤ s → first ≤ℤ last
ordered low high (pos n) first last step apart above below =
    int_without_factor first last n (omega (arith, ints, step.least)) (omega (arith, ints, apart, above, below))
ordered low high (negsuc n) first last step apart above below = absurd (omega (arith, ints, step.least))

-- a coordinate less a margin, and plus a margin, fit in 64 bits
pub less_margin : (z m : ℤ) → unsigned_abs z ≤ 100000000000 → unsigned_abs m ≤ 2000120000 →
    to_z w64 (of_z w64 (to_z w64 (of_z w64 z) -ℤ to_z w64 (of_z w64 m))) ≡ z -ℤ m
less_margin z m hz hm =
    rw (kept_coordinate z (omega arith), kept_coordinate m (omega arith)) (kept_coordinate (z -ℤ m) (omega (arith, ints)))

pub more_margin : (z m : ℤ) → unsigned_abs z ≤ 100000000000 → unsigned_abs m ≤ 2000120000 →
    to_z w64 (of_z w64 (to_z w64 (of_z w64 z) +ℤ to_z w64 (of_z w64 m))) ≡ z +ℤ m
more_margin z m hz hm =
    rw (kept_coordinate z (omega arith), kept_coordinate m (omega arith)) (kept_coordinate (z +ℤ m) (omega (arith, ints)))

-- with a margin of a step on both sides a span is at least two steps
pub apart : (low high m s : ℤ) → low ≤ℤ high → s ≤ℤ m → ((low -ℤ m) +ℤ s +ℤ s) ≤ℤ (high +ℤ m)
apart low high m s order step = omega (arith, ints)
