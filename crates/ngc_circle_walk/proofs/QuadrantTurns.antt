-- Turns about the centre, by quadrants.
use Rattle.std.proofs.Common.{◌≡◌, ℕ, ◌+◌, ◌-◌, ◌*◌, ◌≤◌, pos, ◌-ℤ◌, ◌*ℤ◌, neg_ℤ, unsigned_abs, refl, ap, arith}
use Rattle.std.proofs.lemmas.Int.{ints}
use borrow.Author.Differences.{neg_is, up, down}
use Rattle.ngc_fixed_length.specs.Places.{cross, dot}
use Rattle.ngc_circle_walk.specs.declared.spoke.Quadrant.{Quadrant}
use Rattle.ngc_circle_walk.specs.declared.spoke.Quadrant.TheVariants.{First, Second, Third, Fourth}
use Rattle.ngc_circle_walk.specs.Quadrants.{following}
use Rattle.ngc_circle_walk.specs.Around.{around}

neg_right : (k x : ℕ) → pos k *ℤ neg_ℤ (pos x) ≡ neg_ℤ (pos (k * x))
neg_right k x = let e = neg_is (pos x) in omega (arith, ints, ap (λ t. k * t) e.0, ap (λ t. k * t) e.1)

pub neg_left : (q s : ℕ) → neg_ℤ (pos q) *ℤ pos s ≡ neg_ℤ (pos (q * s))
neg_left q s = let e = neg_is (pos q) in omega (arith, ints, ap (λ t. t * s) e.0, ap (λ t. t * s) e.1)

both_neg : (q s : ℕ) → neg_ℤ (pos q) *ℤ neg_ℤ (pos s) ≡ pos (q * s)
both_neg q s = let e = neg_is (pos q) in let f = neg_is (pos s) in
    omega (
      arith,
      ints,
      ap (λ t. t * up (neg_ℤ (pos s))) e.0,
      ap (λ t. t * down (neg_ℤ (pos s))) e.0,
      ap (λ t. t * up (neg_ℤ (pos s))) e.1,
      ap (λ t. t * down (neg_ℤ (pos s))) e.1,
      ap (λ t. q * t) f.0,
      ap (λ t. q * t) f.1,
    )

-- two points of one quadrant
pub cross_same : (q : Quadrant) (x y z w : ℕ) → cross (around q x y) (around q z w) ≡ pos (x * w) -ℤ pos (y * z)
cross_same First x y z w = refl
cross_same Second x y z w = rw (neg_left y z, neg_right x w) (omega (arith, ints, neg_is (pos (y * z)), neg_is (pos (x * w))))
cross_same Third x y z w = rw (both_neg x w, both_neg y z) refl
cross_same Fourth x y z w = rw (neg_right y z, neg_left x w) (omega (arith, ints, neg_is (pos (y * z)), neg_is (pos (x * w))))

-- a point, and one of the next quadrant: it is ahead
pub cross_next : (q : Quadrant) (x y z w : ℕ) → cross (around q x y) (around (following q) z w) ≡ pos (x * z + y * w)
cross_next First x y z w = rw (neg_right y w) (omega (arith, ints, neg_is (pos (y * w))))
cross_next Second x y z w = rw (both_neg y w, neg_right x z) (omega (arith, ints, neg_is (pos (x * z))))
cross_next Third x y z w = rw (both_neg x z, neg_left y w) (omega (arith, ints, neg_is (pos (y * w))))
cross_next Fourth x y z w = rw (neg_left x z) (omega (arith, ints, neg_is (pos (x * z))))

pub square_around : (q : Quadrant) (x y : ℕ) → unsigned_abs (dot (around q x y) (around q x y)) ≡ x * x + y * y
square_around First x y = refl
square_around Second x y = rw (both_neg y y) (omega arith)
square_around Third x y = rw (both_neg x x, both_neg y y) refl
square_around Fourth x y = rw (both_neg x x) (omega arith)

-- a point, and one two quadrants further
pub cross_opposite : (q : Quadrant) (x y z w : ℕ) → cross (around q x y) (around (following (following q)) z w) ≡ pos (y * z) -ℤ pos (x * w)
cross_opposite First x y z w = rw (neg_right x w, neg_right y z) (omega (arith, ints, neg_is (pos (x * w)), neg_is (pos (y * z))))
cross_opposite Second x y z w = rw (both_neg y z) refl
cross_opposite Third x y z w = rw (neg_left x w, neg_left y z) (omega (arith, ints, neg_is (pos (x * w)), neg_is (pos (y * z))))
cross_opposite Fourth x y z w = rw (both_neg x w) refl

-- a point, and one three quadrants further: it is afterwards
pub cross_behind : (q : Quadrant) (x y z w : ℕ) → cross (around q x y) (around (following (following (following q))) z w) ≡ neg_ℤ (pos (x * z + y * w))
cross_behind First x y z w = rw (neg_right x z) (omega (arith, ints, neg_is (pos (x * z)), neg_is (pos (x * z + y * w))))
cross_behind Second x y z w = rw (neg_left y w) (omega (arith, ints, neg_is (pos (y * w)), neg_is (pos (x * z + y * w))))
cross_behind Third x y z w = rw (neg_left x z, both_neg y w) (omega (arith, ints, neg_is (pos (x * z)), neg_is (pos (x * z + y * w))))
cross_behind Fourth x y z w = rw (neg_right y w, both_neg x z) (omega (arith, ints, neg_is (pos (y * w)), neg_is (pos (x * z + y * w))))

-- a move over an axis turns forward
pub over_turns : (q : Quadrant) (g x y : ℕ) → x ≤ g → cross (around q x y) (around (following q) y (g - x)) ≡ pos (y * g)
over_turns q g x y h = let t = g - x in let e : t + x ≡ g = omega arith in let a : y * (t + x) ≡ y * g = rw e in
    rw (cross_next q x y y t) (omega (arith, ints, a))
