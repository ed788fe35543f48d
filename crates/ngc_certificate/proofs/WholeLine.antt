-- The box of a line in one piece is that of its grid ends.
use Rattle.std.proofs.Common.{◌≡◌, ℕ, suc, ◌+◌, ◌*◌, ◌/◌, ◌≤◌, ◌<◌, ℤ, pos, negsuc, neg_ℤ, ◌+ℤ◌, ◌-ℤ◌, ◌*ℤ◌, ◌≤ℤ◌, ◌<ℤ◌, arith, ap, ◌==◌, ◌&&◌, true}
use Rattle.std.specs.Int.{int_div_euclid, int_min, int_max}
use Rattle.std.proofs.lemmas.Int.{ints, clamps, by_lt_z}
use Rattle.std.proofs.lemmas.Bool.Decides.{nat_tests}
use Rattle.std.proofs.lemmas.Nat.{div-add-mod', mod_below}
use Rattle.std.proofs.Math.Nat.{mul-le-mul_left}
use borrow.Author.Differences.{neg_is, up, down}
use Rattle.ngc_fixed_length.specs.Rounding.{nearest}
use Rattle.ngc_fixed_length.specs.Boxes.{grid_above, grid_below}
use Rattle.ngc_fixed_length.proofs.Nearest.{nearest_near}
use Rattle.ngc_fixed_length.specs.Boxes.{box_of}
use Rattle.ngc_fixed_length.specs.Grid.{grid}
use Rattle.ngc_fixed_length.specs.Length.{IsStep}
use Rattle.ngc_fixed_length.specs.declared.points.Point3.{Point3}
use Rattle.ngc_certificate.specs.DerivedBox.{low_between, high_between, cut_at, line_box}

-- the product with the quotient is at most the dividend
below_product : (z : ℤ) (n : ℕ) → 0 < n → (int_div_euclid z (pos n) *ℤ pos n) ≤ℤ z
below_product (pos a) n h = let whole = div-add-mod' a n in omega (arith, ints)
below_product (negsuc a) n h =
    let whole = div-add-mod' a n in
    let rest = mod_below a n h in
    let product : suc (a / n) * n ≡ a / n * n + n = omega arith in
    omega (arith, ints)

above_product : (z : ℤ) (n : ℕ) → 0 < n → z <ℤ ((int_div_euclid z (pos n) *ℤ pos n) +ℤ pos n)
above_product (pos a) n h =
    let whole = div-add-mod' a n in
    let rest = mod_below a n h in
    omega (arith, ints)
above_product (negsuc a) n h =
    let whole = div-add-mod' a n in
    let product : suc (a / n) * n ≡ a / n * n + n = omega arith in
    omega (arith, ints)

-- a factor cancels
at_most : (a n : ℤ) (k : ℕ) → (a *ℤ pos k) <ℤ ((n *ℤ pos k) +ℤ pos k) → a ≤ℤ n
at_most a n k h =
    by_lt_z n a
    (λ (less : n <ℤ a).
    (let grown : k * (up n + down a + 1) ≤ k * (up a + down n) = mul-le-mul_left k (omega (arith, ints, less)) in absurd (omega (arith, ints, h, grown))))
    (λ (h : a ≤ℤ n). h)

-- the grid point next to a length is at most a step away
reached_above : (a x : ℤ) (k : ℕ) → 0 < k → (a *ℤ pos k) <ℤ x → a ≤ℤ nearest x (pos k)
reached_above a x k h under =
    let near = nearest_near x k h in
    at_most a (nearest x (pos k)) k (omega (arith, ints, under, near))

reached_below : (a x : ℤ) (k : ℕ) → 0 < k → x <ℤ ((a *ℤ pos k)) → nearest x (pos k) ≤ℤ a
reached_below a x k h over =
    let near = nearest_near x k h in
    at_most (nearest x (pos k)) a k (omega (arith, ints, over, near))

-- grid points next to a number of parts of a nanometre
turned_product : (q : ℤ) (k : ℕ) → ((neg_ℤ q *ℤ pos k) *ℤ pos 65536) ≡ neg_ℤ (q *ℤ pos (k * 65536))
turned_product q k =
    let n = neg_is q in
    let p = neg_is (q *ℤ pos (k * 65536)) in
    omega (arith, ints, ap (λ t. t * k) n.0, ap (λ t. t * k) n.1, p.0, p.1)

part_above : (v : ℤ) (k : ℕ) → 0 < k → ((grid_above (pos (k * 65536)) v *ℤ pos k) *ℤ pos 65536) <ℤ (v +ℤ (pos k *ℤ pos 65536))
part_above v k h =
    let q = int_div_euclid (neg_ℤ v) (pos (k * 65536)) in
    let near = below_product (neg_ℤ v) (k * 65536) (omega arith) in
    let over = above_product (neg_ℤ v) (k * 65536) (omega arith) in
    let n = neg_is v in
    let m = neg_is (q *ℤ pos (k * 65536)) in
    rw (turned_product q k) (omega (arith, ints, near, over, n.0, n.1, m.0, m.1))

part_below : (v : ℤ) (k : ℕ) → 0 < k → v <ℤ (((grid_below (pos (k * 65536)) v *ℤ pos k) *ℤ pos 65536) +ℤ (pos k *ℤ pos 65536))
part_below v k h = let over = above_product v (k * 65536) (omega arith) in omega (arith, ints, over)

-- both ends lie between the ends
least_cut : (b e : ℤ) → (int_min (cut_at b e 0) (cut_at b e 65536) ≤ℤ (b *ℤ pos 65536)) × (int_min (cut_at b e 0) (cut_at b e 65536) ≤ℤ (e *ℤ pos 65536))
least_cut b e = (omega (arith, ints, clamps), omega (arith, ints, clamps))

greatest_cut : (b e : ℤ) → ((b *ℤ pos 65536) ≤ℤ int_max (cut_at b e 0) (cut_at b e 65536)) × ((e *ℤ pos 65536) ≤ℤ int_max (cut_at b e 0) (cut_at b e 65536))
greatest_cut b e = (omega (arith, ints, clamps), omega (arith, ints, clamps))

low_under : (k : ℕ) (m x : ℤ) → 0 < k → m ≤ℤ (x *ℤ pos 65536) → grid_above (pos (k * 65536)) (m -ℤ pos (k * 65536)) ≤ℤ nearest x (pos k)
low_under k m x h least =
    let above = part_above (m -ℤ pos (k * 65536)) k h in
    reached_above (grid_above (pos (k * 65536)) (m -ℤ pos (k * 65536))) x k h (omega (arith, ints, above, least))

high_over : (k : ℕ) (m x : ℤ) → 0 < k → (x *ℤ pos 65536) ≤ℤ m → nearest x (pos k) ≤ℤ grid_below (pos (k * 65536)) (m +ℤ pos (k * 65536))
high_over k m x h greatest =
    let below = part_below (m +ℤ pos (k * 65536)) k h in
    reached_below (grid_below (pos (k * 65536)) (m +ℤ pos (k * 65536))) x k h (omega (arith, ints, below, greatest))

no_greater : (a x y : ℤ) → a ≤ℤ x → a ≤ℤ y → int_max a (int_min x y) ≡ int_min x y
no_greater a x y h g = omega (arith, ints, clamps)

no_less : (a x y : ℤ) → x ≤ℤ a → y ≤ℤ a → int_min a (int_max x y) ≡ int_max x y
no_less a x y h g = omega (arith, ints, clamps)

low_whole : (k : ℕ) (b e : ℤ) → 0 < k → int_max (low_between (pos k) b e 0 65536) (int_min (nearest b (pos k)) (nearest e (pos k)))
    ≡ int_min (nearest b (pos k)) (nearest e (pos k))
low_whole k b e h =
    let least = least_cut b e in
    let m = int_min (cut_at b e 0) (cut_at b e 65536) in
    no_greater _ _ _ (low_under k m b h least.0) (low_under k m e h least.1)

high_whole : (k : ℕ) (b e : ℤ) → 0 < k → int_min (high_between (pos k) b e 0 65536) (int_max (nearest b (pos k)) (nearest e (pos k)))
    ≡ int_max (nearest b (pos k)) (nearest e (pos k))
high_whole k b e h =
    let greatest = greatest_cut b e in
    let m = int_max (cut_at b e 0) (cut_at b e 65536) in
    no_less _ _ _ (high_over k m b h greatest.0) (high_over k m e h greatest.1)

pub whole_line : (step : ℤ) (b e : Point3) → IsStep step → line_box step b e 0 65536 ≡ box_of (grid step b) (grid step e)
whole_line (pos k) b e range =
    let some : 0 < k = omega (arith, ints, range.least) in
    simp (
      low_whole k b.x e.x some,
      low_whole k b.y e.y some,
      low_whole k b.z e.z some,
      high_whole k b.x e.x some,
      high_whole k b.y e.y some,
      high_whole k b.z e.z some,
    )
whole_line (negsuc k) b e range = absurd (omega (arith, ints, range.least))

all_of_line : (s t : ℕ) → (s == 0 && t == 65536) ≡ true → (s ≡ 0) × (t ≡ 65536)
all_of_line s t h = (grind (arith, nat_tests), grind (arith, nat_tests))

pub all_cuts : (step : ℤ) (b e : Point3) (s t : ℕ) → IsStep step → (s == 0 && t == 65536) ≡ true → line_box step b e s t ≡ box_of (grid step b) (grid step e)
all_cuts step b e s t range h =
    let all = all_of_line s t h in
    rw (all.0, all.1) (whole_line step b e range)
