-- The low corner of a line's piece is not above its high corner.
use Rattle.std.proofs.Common.{ℕ, suc, ◌*◌, ◌<◌, ◌≤◌, ◌⊎◌, inl, inr, arith, ℤ, pos, negsuc, ◌+ℤ◌, ◌-ℤ◌, ◌*ℤ◌, ◌≤ℤ◌, unsigned_abs}
use Rattle.std.specs.Int.{int_min, int_max}
use Rattle.std.proofs.lemmas.Int.{ints, clamps}
use Rattle.std.proofs.Math.Nat.{mul-le-mul_left}
use Rattle.ngc_fixed_length.specs.Rounding.{nearest}
use Rattle.ngc_fixed_length.specs.Grid.{distance}
use Rattle.ngc_fixed_length.proofs.Nearest.{nearest_near}
use Rattle.ngc_certificate.specs.DerivedBox.{cut_at, low_between, high_between}
use Rattle.ngc_certificate.proofs.SafeInPiece.{scale_up}
use Rattle.ngc_certificate.proofs.AxisBetween.{above_low, below_high, above_most, below_least, scaled}

-- the grid point nearest to the first cut lies between the bounds of both
cut_near : (g s : ℕ) (b e p : ℤ) → 2 * unsigned_abs (cut_at b e s -ℤ (p *ℤ pos (g * 65536))) ≤ g * 65536 →
    distance (pos s *ℤ (e -ℤ b)) (pos 65536 *ℤ ((p *ℤ pos g) -ℤ b)) ≤ 65536 * g
cut_near g s b e p h = omega (arith, ints, h, scaled g p b)

low_high : (g s t : ℕ) (b e : ℤ) → 0 < g → s ≤ t → low_between (pos g) b e s t ≤ℤ high_between (pos g) b e s t
low_high g s t b e zg st =
    let p = nearest (cut_at b e s) (pos (g * 65536)) in
    let near = cut_near g s b e p (nearest_near (cut_at b e s) (g * 65536) (omega (arith, zg))) in
    let low = above_low 65536 s s t g b e p (omega arith) zg (omega arith) (omega (arith, st)) near in
    let high = below_high 65536 s s t g b e p (omega arith) zg (omega arith) (omega (arith, st)) near in
    omega (arith, ints, low, high)

-- parts of a line lead no farther than the line, and no farther back than its start
part_up : (d : ℤ) (s : ℕ) → s ≤ 65536 → ((d *ℤ pos s) ≤ℤ (d *ℤ pos 65536)) ⊎ ((d *ℤ pos s) ≤ℤ pos 0)
part_up (pos d) s h = let i : d * s ≤ d * 65536 = mul-le-mul_left d h in inl (omega (arith, ints, i))
part_up (negsuc d) s h = inr (omega (arith, ints))

part_down : (d : ℤ) (s : ℕ) → s ≤ 65536 → ((d *ℤ pos 65536) ≤ℤ (d *ℤ pos s)) ⊎ (pos 0 ≤ℤ (d *ℤ pos s))
part_down (pos d) s h = inr (omega (arith, ints))
part_down (negsuc d) s h = let i : suc d * s ≤ suc d * 65536 = mul-le-mul_left (suc d) h in inl (omega (arith, ints, i))

-- a cut lies between the line's ends
cut_below : (b e : ℤ) (s : ℕ) → s ≤ 65536 → cut_at b e s ≤ℤ (int_max b e *ℤ pos 65536)
cut_below b e s h =
    elim (part_up (e -ℤ b) s h) [
      | inl i ↦ omega (arith, ints, clamps, i)
      | inr i ↦ omega (arith, ints, clamps, i)
    ]

cut_above : (b e : ℤ) (s : ℕ) → s ≤ 65536 → (int_min b e *ℤ pos 65536) ≤ℤ cut_at b e s
cut_above b e s h =
    elim (part_down (e -ℤ b) s h) [
      | inl i ↦ omega (arith, ints, clamps, i)
      | inr i ↦ omega (arith, ints, clamps, i)
    ]

max_left : (x y : ℤ) → x ≤ℤ int_max x y
max_left x y = omega (arith, ints, clamps)

max_right : (x y : ℤ) → y ≤ℤ int_max x y
max_right x y = omega (arith, ints, clamps)

min_left : (x y : ℤ) → int_min x y ≤ℤ x
min_left x y = omega (arith, ints, clamps)

min_right : (x y : ℤ) → int_min x y ≤ℤ y
min_right x y = omega (arith, ints, clamps)

-- both ends are at most a step beyond the greater of their grid points, and at most a step below
-- the lesser
ends_below : (g : ℕ) (b e : ℤ) → 0 < g → int_max b e ≤ℤ ((int_max (nearest b (pos g)) (nearest e (pos g)) *ℤ pos g) +ℤ pos g)
ends_below g b e zg =
    let i = nearest_near b g zg in
    let j = nearest_near e g zg in
    let p = scale_up g (nearest b (pos g)) (int_max (nearest b (pos g)) (nearest e (pos g))) (max_left (nearest b (pos g)) (nearest e (pos g))) in
    let q = scale_up g (nearest e (pos g)) (int_max (nearest b (pos g)) (nearest e (pos g))) (max_right (nearest b (pos g)) (nearest e (pos g))) in
    omega (arith, ints, clamps, i, j, p, q)

ends_above : (g : ℕ) (b e : ℤ) → 0 < g → (int_min (nearest b (pos g)) (nearest e (pos g)) *ℤ pos g) ≤ℤ (int_min b e +ℤ pos g)
ends_above g b e zg =
    let i = nearest_near b g zg in
    let j = nearest_near e g zg in
    let p = scale_up g (int_min (nearest b (pos g)) (nearest e (pos g))) (nearest b (pos g)) (min_left (nearest b (pos g)) (nearest e (pos g))) in
    let q = scale_up g (int_min (nearest b (pos g)) (nearest e (pos g))) (nearest e (pos g)) (min_right (nearest b (pos g)) (nearest e (pos g))) in
    omega (arith, ints, clamps, i, j, p, q)

low_end : (g s t : ℕ) (b e : ℤ) → 0 < g → s ≤ 65536 → low_between (pos g) b e s t ≤ℤ int_max (nearest b (pos g)) (nearest e (pos g))
low_end g s t b e zg h =
    let p = int_max (nearest b (pos g)) (nearest e (pos g)) in
    let i = cut_below b e s h in
    let j = ends_below g b e zg in
    above_most (g * 65536) p (int_min (cut_at b e s) (cut_at b e t) -ℤ pos (g * 65536)) (omega (arith, zg))
    (omega (arith, ints, i, j, scaled g p (pos 0), min_left (cut_at b e s) (cut_at b e t)))

high_end : (g s t : ℕ) (b e : ℤ) → 0 < g → s ≤ 65536 → int_min (nearest b (pos g)) (nearest e (pos g)) ≤ℤ high_between (pos g) b e s t
high_end g s t b e zg h =
    let p = int_min (nearest b (pos g)) (nearest e (pos g)) in
    let i = cut_above b e s h in
    let j = ends_above g b e zg in
    below_least (g * 65536) p (int_max (cut_at b e s) (cut_at b e t) +ℤ pos (g * 65536)) (omega (arith, zg))
    (omega (arith, ints, i, j, scaled g p (pos 0), max_left (cut_at b e s) (cut_at b e t)))

least_of : (low high x y : ℤ) → low ≤ℤ high → low ≤ℤ int_max x y → int_min x y ≤ℤ high → int_max low (int_min x y) ≤ℤ int_min high (int_max x y)
least_of low high x y a l u = omega (arith, ints, clamps, a, l, u)

-- along an axis
pub ordered : (g s t : ℕ) (b e : ℤ) → 0 < g → s ≤ t → s ≤ 65536 →
    int_max (low_between (pos g) b e s t) (int_min (nearest b (pos g)) (nearest e (pos g)))
    ≤ℤ int_min (high_between (pos g) b e s t) (int_max (nearest b (pos g)) (nearest e (pos g)))
ordered g s t b e zg st h =
    let a = low_high g s t b e zg st in
    let l = low_end g s t b e zg h in
    let u = high_end g s t b e zg h in
    least_of (low_between (pos g) b e s t) (high_between (pos g) b e s t) (nearest b (pos g)) (nearest e (pos g)) a l u
