-- The distances of the ends from a centre that is found from the chord's middle.
use Rattle.std.proofs.Common.{◌≡◌, ℕ, suc, ◌+◌, ◌*◌, ◌≤◌, ◌<◌, min, max, ℤ, pos, negsuc, ◌+ℤ◌, ◌-ℤ◌, unsigned_abs, ◌⊎◌, inl, inr, arith}
use Rattle.std.specs.Int.{int_div_euclid}
use Rattle.std.proofs.lemmas.Bool.{cases_lt}
use Rattle.std.proofs.lemmas.Int.{ints}
use Rattle.std.proofs.lemmas.Nat.{mul-le}
use Rattle.ngc_fixed_length.specs.declared.points.Point2.{Point2}
use Rattle.ngc_fixed_length.specs.Places.{from, dot}
use Rattle.ngc_arc_geometry.specs.Chord.{halfway}
use Rattle.ngc_arc_geometry.specs.Radii.{squared_distance}
use Rattle.ngc_arc_geometry.proofs.Squares.{square_sum}
use Rattle.ngc_arc_geometry.proofs.ChordLemmas.{without_factor}

-- twice the half of a number differs from it by at most one
half_near : (z : ℤ) → unsigned_abs (z -ℤ (int_div_euclid z (pos 2) +ℤ int_div_euclid z (pos 2))) ≤ 1
half_near (pos a) = omega (arith, ints)
half_near (negsuc a) = omega (arith, ints)

-- the middle's size is at most the greater of the two sizes
pub halfway_within : (x y : ℤ) (n : ℕ) → unsigned_abs x ≤ n → unsigned_abs y ≤ n → unsigned_abs (halfway x y) ≤ n
halfway_within x y n hx hy = let half = half_near (x +ℤ y) in omega (arith, ints, half)

-- the squares of two numbers from those of their sum and difference
same_sign : (p q s d : ℕ) → s ≡ p + q → (d + p ≡ q) ⊎ (d + q ≡ p) → 2 * (p * p + q * q) ≡ s * s + d * d
same_sign p q s d whole (inl more) = rw (whole, ← more) (omega arith)
same_sign p q s d whole (inr more) = rw (whole, ← more) (omega arith)

by_order : (p q d : ℕ) → (p ≤ q → d + p ≡ q) → (q ≤ p → d + q ≡ p) → (d + p ≡ q) ⊎ (d + q ≡ p)
by_order p q d up down =
    elim (cases_lt q p) [
      | inl more ↦ (inr (down (omega arith)))
      | inr less ↦ (inl (up less))
    ]

squares_of : (x y : ℤ) → 2 * (unsigned_abs x * unsigned_abs x + unsigned_abs y * unsigned_abs y)
    ≡ unsigned_abs (x +ℤ y) * unsigned_abs (x +ℤ y) + unsigned_abs (y -ℤ x) * unsigned_abs (y -ℤ x)
squares_of (pos a) (pos b) =
    same_sign a b (unsigned_abs (pos a +ℤ pos b)) (unsigned_abs (pos b -ℤ pos a)) (omega (arith, ints))
    (by_order a b (unsigned_abs (pos b -ℤ pos a)) (λ h. omega (arith, ints, h)) (λ h. omega (arith, ints, h)))
squares_of (negsuc a) (negsuc b) =
    same_sign (suc a) (suc b) (unsigned_abs (negsuc a +ℤ negsuc b)) (unsigned_abs (negsuc b -ℤ negsuc a)) (omega (arith, ints))
    (by_order (suc a) (suc b) (unsigned_abs (negsuc b -ℤ negsuc a)) (λ h. omega (arith, ints, h)) (λ h. omega (arith, ints, h)))
squares_of (pos a) (negsuc b) =
    let e = same_sign a (suc b) (unsigned_abs (negsuc b -ℤ pos a)) (unsigned_abs (pos a +ℤ negsuc b)) (omega (arith, ints))
    (by_order a (suc b) (unsigned_abs (pos a +ℤ negsuc b)) (λ h. omega (arith, ints, h)) (λ h. omega (arith, ints, h))) in
    omega (arith, e)
squares_of (negsuc a) (pos b) =
    let e = same_sign (suc a) b (unsigned_abs (pos b -ℤ negsuc a)) (unsigned_abs (negsuc a +ℤ pos b)) (omega (arith, ints))
    (by_order (suc a) b (unsigned_abs (negsuc a +ℤ pos b)) (λ h. omega (arith, ints, h)) (λ h. omega (arith, ints, h))) in
    omega (arith, e)

-- on one axis: the sum of the ends' squared distances from a point at most h from their middle
axis_sum : (s e c : ℤ) (h : ℕ) → unsigned_abs (c -ℤ halfway s e) ≤ h →
    2 * (unsigned_abs (s -ℤ c) * unsigned_abs (s -ℤ c) + unsigned_abs (e -ℤ c) * unsigned_abs (e -ℤ c))
    ≤ (2 * h + 1) * (2 * h + 1) + unsigned_abs (e -ℤ s) * unsigned_abs (e -ℤ s)
axis_sum s e c h near =
    let half = half_near (s +ℤ e) in
    let sum : unsigned_abs ((s -ℤ c) +ℤ (e -ℤ c)) ≤ 2 * h + 1 = omega (arith, ints, half, near) in
    let square = mul-le (unsigned_abs ((s -ℤ c) +ℤ (e -ℤ c))) (unsigned_abs ((s -ℤ c) +ℤ (e -ℤ c))) (2 * h + 1) (2 * h + 1) sum sum in
    let way : unsigned_abs ((e -ℤ c) -ℤ (s -ℤ c)) ≡ unsigned_abs (e -ℤ s) = omega (arith, ints) in
    let squares = rw way at (squares_of (s -ℤ c) (e -ℤ c)) in
    omega (arith, squares, square)

-- the same in the plane
pub plane_sum : (s e m c : Point2) (hu hv : ℕ) → m.u ≡ halfway s.u e.u → m.v ≡ halfway s.v e.v → unsigned_abs (c.u -ℤ m.u) ≤ hu →
    unsigned_abs (c.v -ℤ m.v) ≤ hv → 2 * (squared_distance c s + squared_distance c e)
    ≤ (2 * hu + 1) * (2 * hu + 1) + (2 * hv + 1) * (2 * hv + 1) + unsigned_abs (dot (from s e) (from s e))
plane_sum s e m c hu hv mu mv nu nv =
    let u = axis_sum s.u e.u c.u hu (rw (← mu) nu) in
    let v = axis_sum s.v e.v c.v hv (rw (← mv) nv) in
    let at_start = square_sum (s.u -ℤ c.u) (s.v -ℤ c.v) in
    let at_end = square_sum (e.u -ℤ c.u) (e.v -ℤ c.v) in
    let chord = square_sum (e.u -ℤ s.u) (e.v -ℤ s.v) in
    rw (at_start, at_end, chord) (omega (arith, u, v))

-- the squares of both offsets from the middle, from the chord's squares a2 and b2
pub aside_squares : (a2 b2 e ha hb : ℕ) → 0 < a2 + b2 → 4 * (a2 + b2) * (ha * ha) ≤ a2 * e → 4 * (a2 + b2) * (hb * hb) ≤ b2 * e → 4 * (ha * ha + hb * hb) ≤ e
aside_squares a2 b2 e ha hb positive a b = without_factor (a2 + b2) (4 * (ha * ha + hb * hb)) e positive (omega arith)

-- the sum of two numbers is that of the lesser and the greater
pub min_max_sum : (x y : ℕ) → min x y + max x y ≡ x + y
min_max_sum x y = omega arith
