-- One axis of a line between two cuts.
use Rattle.std.proofs.Common.{◌≡◌, ℕ, zero, suc, ◌*◌, ◌<◌, ◌≤◌, ◌⊎◌, inl, inr, arith, ℤ, pos, negsuc, ◌+ℤ◌, ◌-ℤ◌, ◌*ℤ◌, ◌≤ℤ◌, neg_ℤ, unsigned_abs}
use Rattle.std.specs.Int.{int_div_euclid}
use Rattle.std.proofs.lemmas.Int.{ints}
use Rattle.std.proofs.lemmas.Nat.{le-div, div_below}
use Rattle.std.specs.Int.{int_min, int_max}
use Rattle.ngc_fixed_length.specs.Boxes.{grid_above, grid_below}
use Rattle.ngc_fixed_length.specs.Grid.{distance}
use Rattle.ngc_certificate.specs.DerivedBox.{cut_at, low_between, high_between}
use Rattle.ngc_certificate.proofs.PathShares.{ahead_of, ahead_back, before}

-- a whole number is at most a quotient rounded down if its product is at most the dividend
pub floor_above : (y : ℕ) (q x : ℤ) → 0 < y → (q *ℤ pos y) ≤ℤ x → q ≤ℤ int_div_euclid x (pos y)
floor_above y (pos m) (pos a) p h = let i = le-div m a y p (omega (arith, ints, h)) in omega (arith, ints, i)
floor_above y (pos m) (negsuc a) p h = absurd (omega (arith, ints, h))
floor_above y (negsuc m) (pos a) p h = omega (arith, ints)
floor_above y (negsuc m) (negsuc a) p h = let i = div_below a y (suc m) p (omega (arith, ints, h)) in omega (arith, ints, i)

-- the distance from b to a cut, and the distance u that was travelled
pub low_core : (w n k s t g : ℕ) (d u : ℤ) → 0 < n → s * n ≤ w * k → w * k ≤ t * n →
    unsigned_abs ((pos n *ℤ u) -ℤ (pos k *ℤ d)) ≤ n * g →
    ((d *ℤ pos s) ≤ℤ ((u *ℤ pos w) +ℤ pos (g * w))) ⊎ ((d *ℤ pos t) ≤ℤ ((u *ℤ pos w) +ℤ pos (g * w)))
low_core w n k s t g (pos d) (pos u) p c e h = inl (omega (arith, ints, ahead_of w n k s d u g p c (omega (arith, ints, h))))
low_core w n k s t g (pos d) (negsuc u) p c e h = inl (omega (arith, ints, ahead_back w n k s d (suc u) g p c (omega (arith, ints, h))))
low_core w n k s t g (negsuc d) (pos u) p c e h = inl (omega (arith, ints))
low_core w n k s t g (negsuc d) (negsuc u) p c e h = inr (omega (arith, ints, before w n k t (suc d) (suc u) g p e (omega (arith, ints, h))))

pub high_core : (w n k s t g : ℕ) (d u : ℤ) → 0 < n → s * n ≤ w * k → w * k ≤ t * n →
    unsigned_abs ((pos n *ℤ u) -ℤ (pos k *ℤ d)) ≤ n * g →
    ((u *ℤ pos w) ≤ℤ ((d *ℤ pos t) +ℤ pos (g * w))) ⊎ ((u *ℤ pos w) ≤ℤ ((d *ℤ pos s) +ℤ pos (g * w)))
high_core w n k s t g (pos d) (pos u) p c e h = inl (omega (arith, ints, before w n k t d u g p e (omega (arith, ints, h))))
high_core w n k s t g (pos d) (negsuc u) p c e h = inl (omega (arith, ints))
high_core w n k s t g (negsuc d) (pos u) p c e h = inr (omega (arith, ints, ahead_back w n k s (suc d) u g p c (omega (arith, ints, h))))
high_core w n k s t g (negsuc d) (negsuc u) p c e h = inr (omega (arith, ints, ahead_of w n k s (suc d) (suc u) g p c (omega (arith, ints, h))))

pub scaled : (g : ℕ) (p b : ℤ) → ((p *ℤ pos g) -ℤ b) *ℤ pos 65536 ≡ (p *ℤ pos (g * 65536)) -ℤ (b *ℤ pos 65536)
scaled g (pos m) b = omega (arith, ints)
scaled g (negsuc m) b = omega (arith, ints)

flipped : (g : ℕ) (p : ℤ) → neg_ℤ p *ℤ pos g ≡ neg_ℤ (p *ℤ pos g)
flipped g (pos zero) = omega (arith, ints)
flipped g (pos (suc m)) = omega (arith, ints)
flipped g (negsuc m) = omega (arith, ints)

int_min_left : (x y : ℤ) → int_min x y ≤ℤ x
int_min_left x y = grind (arith, ints)

int_min_right : (x y : ℤ) → int_min x y ≤ℤ y
int_min_right x y = grind (arith, ints)

int_max_left : (x y : ℤ) → x ≤ℤ int_max x y
int_max_left x y = grind (arith, ints)

int_max_right : (x y : ℤ) → y ≤ℤ int_max x y
int_max_right x y = grind (arith, ints)

-- the first grid point is at most p if the length is at most p's
pub above_most : (y : ℕ) (p l : ℤ) → 0 < y → l ≤ℤ (p *ℤ pos y) → grid_above (pos y) l ≤ℤ p
above_most y p l z h =
    let e : (neg_ℤ p *ℤ pos y) ≤ℤ neg_ℤ l = rw (flipped y p) (omega (arith, ints, h)) in
    let f = floor_above y (neg_ℤ p) (neg_ℤ l) z e in
    omega (arith, ints, f)

pub below_least : (y : ℕ) (p l : ℤ) → 0 < y → (p *ℤ pos y) ≤ℤ l → p ≤ℤ grid_below (pos y) l
below_least y p l z h = floor_above y p l z h

-- p is on the line between two cuts, grown by a step
pub above_low : (n k s t g : ℕ) (b e p : ℤ) → 0 < n → 0 < g → s * n ≤ 65536 * k → 65536 * k ≤ t * n →
    distance (pos k *ℤ (e -ℤ b)) (pos n *ℤ ((p *ℤ pos g) -ℤ b)) ≤ n * g →
    low_between (pos g) b e s t ≤ℤ p
above_low n k s t g b e p z zg c f h =
    above_most (g * 65536) p (int_min (cut_at b e s) (cut_at b e t) -ℤ pos (g * 65536)) (omega arith)
    (elim (low_core 65536 n k s t g (e -ℤ b) ((p *ℤ pos g) -ℤ b) z c f h) [
      | inl i ↦ omega (arith, ints, i, scaled g p b, int_min_left (cut_at b e s) (cut_at b e t))
      | inr i ↦ omega (arith, ints, i, scaled g p b, int_min_right (cut_at b e s) (cut_at b e t))
    ])

pub below_high : (n k s t g : ℕ) (b e p : ℤ) → 0 < n → 0 < g → s * n ≤ 65536 * k → 65536 * k ≤ t * n →
    distance (pos k *ℤ (e -ℤ b)) (pos n *ℤ ((p *ℤ pos g) -ℤ b)) ≤ n * g →
    p ≤ℤ high_between (pos g) b e s t
below_high n k s t g b e p z zg c f h =
    below_least (g * 65536) p (int_max (cut_at b e s) (cut_at b e t) +ℤ pos (g * 65536)) (omega arith)
    (elim (high_core 65536 n k s t g (e -ℤ b) ((p *ℤ pos g) -ℤ b) z c f h) [
      | inl i ↦ omega (arith, ints, i, scaled g p b, int_max_right (cut_at b e s) (cut_at b e t))
      | inr i ↦ omega (arith, ints, i, scaled g p b, int_max_left (cut_at b e s) (cut_at b e t))
    ])
