-- The part of an extent that lies within the travel.
use Rattle.std.proofs.Common.{◌≡◌, ℕ, zero, suc, ◌*◌, ◌/◌, ◌+◌, ◌<◌, ℤ, pos, negsuc, neg_ℤ, ◌*ℤ◌, ◌-ℤ◌, ◌≤ℤ◌, refl, arith}
use Rattle.std.specs.Prelude.{IsTrue, int_le}
use Rattle.std.specs.Int.{int_min, int_max, int_div_euclid}
use Rattle.std.proofs.lemmas.Int.{ints, clamps}
use Rattle.std.proofs.lemmas.Nat.{div-add-mod', mod_below, mul-le}
use Rattle.ngc_fixed_length.specs.Boxes.{grid_above, grid_below}
use Rattle.ngc_fixed_length.specs.Length.{IsStep}
use Rattle.ngc_findings.specs.Extents.{extent, ExtentInTravelHolds}
use Rattle.ngc_report.specs.Reports.{SettingStaysInside}
use Rattle.ngc_findings.specs.Rooms.{is_inside_on, axis_space}
use Rattle.ngc_arc_geometry.proofs.CutGrid.{above_low, below_high}
use Rattle.ngc_report.proofs.Fitting.{both, and, le_test}

le_of : (a b : ℤ) → IsTrue (int_le a b) → a ≤ℤ b
le_of a b h = grind (arith, ints)

-- ---- grid points and limits

-- a quotient times the step isn't above what is divided
quotient_below : (z : ℤ) (n : ℕ) → 0 < n → (int_div_euclid z (pos n) *ℤ pos n) ≤ℤ z
quotient_below (pos a) n p =
    let whole = div-add-mod' a n in
    omega (arith, ints)
quotient_below (negsuc a) n p =
    let whole = div-add-mod' a n in
    let product : suc (a / n) * n ≡ a / n * n + n = omega arith in
    let rest = mod_below a n p in
    omega (arith, ints)

flipped : (q : ℤ) (n : ℕ) → neg_ℤ q *ℤ pos n ≡ neg_ℤ (q *ℤ pos n)
flipped (pos zero) n = omega (arith, ints)
flipped (pos (suc m)) n = omega (arith, ints)
flipped (negsuc m) n = omega (arith, ints)

above_limit : (l : ℤ) (n : ℕ) → 0 < n → l ≤ℤ (grid_above (pos n) l *ℤ pos n)
above_limit l n p =
    let q = int_div_euclid (neg_ℤ l) (pos n) in
    let e = quotient_below (neg_ℤ l) n p in
    rw (flipped q n) (omega (arith, ints, e))

times : (a b : ℤ) (n : ℕ) → a ≤ℤ b → (a *ℤ pos n) ≤ℤ (b *ℤ pos n)
times (pos a) (pos b) n h = let i = mul-le a n b n (omega (arith, ints, h)) (omega arith) in omega (arith, ints, i)
times (negsuc a) (pos b) n h = omega (arith, ints)
times (pos a) (negsuc b) n h = absurd (omega (arith, ints, h))
times (negsuc a) (negsuc b) n h = let i = mul-le (suc b) n (suc a) n (omega (arith, ints, h)) (omega arith) in omega (arith, ints, i)

-- ---- one axis

low_inside : (e l : ℤ) (n : ℕ) → 0 < n → l ≤ℤ (int_max e (grid_above (pos n) l) *ℤ pos n)
low_inside e l n p =
    let a = above_limit l n p in
    let b = times (grid_above (pos n) l) (int_max e (grid_above (pos n) l)) n (omega (arith, ints, clamps)) in
    omega (arith, ints, a, b)

high_inside : (e l : ℤ) (n : ℕ) → 0 < n → (int_min e (grid_below (pos n) l) *ℤ pos n) ≤ℤ l
high_inside e l n p =
    let a = quotient_below l n p in
    let b = times (int_min e (grid_below (pos n) l)) (grid_below (pos n) l) n (omega (arith, ints, clamps)) in
    omega (arith, ints, a, b)

axis_inside : (step low high least greatest : ℤ) → IsStep step →
    IsTrue (is_inside_on (axis_space step (int_max low (grid_above step least)) (int_min high (grid_below step greatest)) least greatest))
axis_inside (pos n) low high least greatest step =
    let p : 0 < n = omega (arith, ints, step.least) in
    let a = low_inside low least n p in
    let b = high_inside high greatest n p in
    and _ _ (le_test (pos 0) ((int_max low (grid_above (pos n) least) *ℤ pos n) -ℤ least) (omega (arith, ints, a)))
    (le_test (pos 0) (greatest -ℤ (int_min high (grid_below (pos n) greatest) *ℤ pos n)) (omega (arith, ints, b)))
axis_inside (negsuc n) low high least greatest step = absurd (omega (arith, ints, step.least))

pub setting_law : SettingStaysInside
setting_law machine commands step =
    let e = extent machine commands in
    and _ _ (axis_inside machine.step e.low.x e.high.x machine.low.x machine.high.x step)
    (and _ _ (axis_inside machine.step e.low.y e.high.y machine.low.y machine.high.y step)
    (and _ _ (axis_inside machine.step e.low.z e.high.z machine.low.z machine.high.z step) refl))

-- ---- what it holds

record IsWithin (step p l h least greatest : ℤ) : Type 0 where
  low : int_max l (grid_above step least) ≤ℤ p
  high : p ≤ℤ int_min h (grid_below step greatest)

on_axis : (step p low high least greatest : ℤ) → IsStep step → low ≤ℤ p → p ≤ℤ high → least ≤ℤ (p *ℤ step) → (p *ℤ step) ≤ℤ greatest →
    IsWithin step p low high least greatest
on_axis (pos n) p low high least greatest step a b c d =
    let z : 0 < n = omega (arith, ints, step.least) in
    let e = above_low n p least z c in
    let f = below_high n p greatest z d in
    record { low = omega (arith, ints, clamps, e); high = omega (arith, ints, clamps, f) }
on_axis (negsuc n) p low high least greatest step a b c d = absurd (omega (arith, ints, step.least))

pub holds_law : ExtentInTravelHolds
holds_law machine commands p step inside travel =
    let e = extent machine commands in
    let t = both _ _ travel in
    let low_x = both _ _ t.0 in
    let low_y = both _ _ low_x.1 in
    let high_x = both _ _ t.1 in
    let high_y = both _ _ high_x.1 in
    let x = on_axis machine.step p.x e.low.x e.high.x machine.low.x machine.high.x step inside.x_low inside.x_high (le_of _ _ low_x.0) (le_of _ _ high_x.0) in
    let y = on_axis machine.step p.y e.low.y e.high.y machine.low.y machine.high.y step inside.y_low inside.y_high (le_of _ _ low_y.0) (le_of _ _ high_y.0) in
    let z = on_axis machine.step p.z e.low.z e.high.z machine.low.z machine.high.z step inside.z_low inside.z_high (le_of _ _ low_y.1) (le_of _ _ high_y.1) in
    record { x_low = x.low; x_high = x.high; y_low = y.low; y_high = y.high; z_low = z.low; z_high = z.high }
