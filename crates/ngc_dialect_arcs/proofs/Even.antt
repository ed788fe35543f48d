-- The radii of an evened arc differ by at most 2 nm, and the centre moves by at most the limit.
use Rattle.std.proofs.Common.{◌≡◌, ℕ, suc, ◌/◌, ◌+◌, ◌-◌, ◌*◌, ◌≤◌, ◌<◌, ℤ, pos, negsuc, ◌+ℤ◌, ◌-ℤ◌, ◌*ℤ◌, ◌≤ℤ◌, ◌<ℤ◌, unsigned_abs, true, ◌⊎◌, inl, inr, arith, ap, sym, ◌∙◌}
use Rattle.std.specs.Int.{int_div_euclid}
use Rattle.std.proofs.lemmas.Bool.{cases_lt}
use Rattle.std.proofs.lemmas.Bool.Decides.{nat_tests}
use Rattle.std.proofs.lemmas.Int.{ints, unsigned_abs-mul}
use Rattle.std.proofs.lemmas.Nat.{mul-le, div-add-mod', mod_below}
use Rattle.std.proofs.Math.IntN.{*ℤ_comm, zero-*ℤ, *ℤ-zero}
use Rattle.ngc_fixed_length.specs.declared.points.Point2.{Point2}
use Rattle.ngc_arc_geometry.specs.Radii.{roots_within}
use Rattle.ngc_arc_geometry.proofs.Squares.{square_sum, from_squares}
use Rattle.ngc_dialect_arcs.specs.Centre.{start_square, end_square, chord_square, excess, shift, shift_by}
use Rattle.ngc_dialect_arcs.proofs.Products.{times_sum, sum_times, swapped, grouped, square_of, size_square}

-- ---- two squares whose difference is small are those of radii that are alike

square_bound : (s d q x : ℕ) → x + q ≡ 2 * s + d → d * d ≤ 4 * (x + q) → 4 ≤ q → x * x ≤ 4 * s * (d + s)
square_bound s d q x sum small least =
    let squares : (x + q) * (x + q) ≡ (2 * s + d) * (2 * s + d) = ap (λ z. z * z) sum in
    let more : 4 * (x + q) ≤ q * (x + q) = mul-le 4 (x + q) q (x + q) least (omega arith) in
    omega arith

by_test : (t s e : ℕ) → (t * t < s + e → (s + e - t * t) * (s + e - t * t) ≤ 4 * s * e) → roots_within t s e ≡ true
by_test t s e h = grind (arith, nat_tests)

bound_up : (t s e d : ℕ) → d + s ≡ e → d * d ≤ 4 * (s + e) → 4 ≤ t * t → t * t < s + e → (s + e - t * t) * (s + e - t * t) ≤ 4 * s * e
bound_up t s e d more small least far = rw (← more) (square_bound s d (t * t) (s + (d + s) - t * t) (omega arith) (omega arith) least)

bound_down : (t s e d : ℕ) → d + e ≡ s → d * d ≤ 4 * (s + e) → 4 ≤ t * t → t * t < s + e → (s + e - t * t) * (s + e - t * t) ≤ 4 * s * e
bound_down t s e d more small least far =
    let x : ℕ = d + e + e - t * t in
    let bound = square_bound e d (t * t) x (omega arith) (omega arith) least in
    rw (← more) (omega (arith, bound))

pub alike_within : (t s e d : ℕ) → (d + s ≡ e) ⊎ (d + e ≡ s) → d * d ≤ 4 * (s + e) → 4 ≤ t * t → roots_within t s e ≡ true
alike_within t s e d (inl more) small least = by_test t s e (bound_up t s e d more small least)
alike_within t s e d (inr more) small least = by_test t s e (bound_down t s e d more small least)

-- ---- sizes

double_product : (x y : ℕ) → 2 * (x * y) ≤ x * x + y * y
double_product x y =
    elim (cases_lt x y) [
      | inl more ↦ (let d = y - x in let e : y ≡ x + d = omega arith in rw e (omega arith))
      | inr less ↦ (let d = x - y in let e : x ≡ y + d = omega arith in rw e (omega arith))
    ]

sum_square : (x y z : ℕ) → x ≤ y + z → x * x ≤ 2 * (y * y + z * z)
sum_square x y z h =
    let p = double_product y z in
    let q : x * x ≤ (y + z) * (y + z) = mul-le x x (y + z) (y + z) h h in
    omega arith

-- the chord is at most the two radii
chord_bound : (a p : ℤ) → unsigned_abs a * unsigned_abs a ≤ 2 * (unsigned_abs (pos 0 -ℤ p) * unsigned_abs (pos 0 -ℤ p) + unsigned_abs (a -ℤ p) * unsigned_abs (a -ℤ p))
chord_bound a p = sum_square (unsigned_abs a) (unsigned_abs (pos 0 -ℤ p)) (unsigned_abs (a -ℤ p)) (omega (arith, ints))

within_factor : (n d s : ℕ) → 0 < n → n * d ≤ s * n → d ≤ s
within_factor n d s some h =
    elim (cases_lt s d) [
      | inl more ↦ (let p : n * (s + 1) ≤ n * d = mul-le n (s + 1) n d (omega arith) (omega arith) in absurd (omega arith))
      | inr less ↦ less
    ]

-- ---- the shift is rounded by at most a half

pub floor_near : (x : ℤ) (m : ℕ) → 0 < m → ((int_div_euclid x (pos m) *ℤ pos m) ≤ℤ x) × (x <ℤ ((int_div_euclid x (pos m) *ℤ pos m) +ℤ pos m))
floor_near (pos a) m some =
    let whole = div-add-mod' a m in
    let rest = mod_below a m some in
    (omega (arith, ints), omega (arith, ints))
floor_near (negsuc a) m some =
    let whole = div-add-mod' a m in
    let rest = mod_below a m some in
    let product : suc (a / m) * m ≡ a / m * m + m = omega arith in
    (omega (arith, ints), omega (arith, ints))

-- 2 n times the shift, less part times the excess
rest_of : ℤ → ℤ → ℕ → ℤ
rest_of a d n = (pos (2 * n) *ℤ shift_by a d n) -ℤ (a *ℤ d)

rest_small : (a d : ℤ) (n : ℕ) → 0 < n → unsigned_abs (rest_of a d n) ≤ n
unfolding shift_by rest_of
rest_small a d n some =
    let near = floor_near ((a *ℤ d) +ℤ pos n) (2 * n) (omega arith) in
    let turn = *ℤ_comm (pos (2 * n)) (shift_by a d n) in
    omega (arith, ints, near.0, near.1, turn)

-- n times twice the part of the shift along the chord
along : (a d : ℤ) (n : ℕ) → (pos n *ℤ (a *ℤ shift_by a d n)) +ℤ (pos n *ℤ (a *ℤ shift_by a d n)) ≡ ((a *ℤ a) *ℤ d) +ℤ (a *ℤ rest_of a d n)
unfolding rest_of
along a d n =
    let k = shift_by a d n in
    let p = pos (2 * n) *ℤ k in
    let q = a *ℤ d in
    let parts : (p -ℤ q) +ℤ q ≡ p = omega (arith, ints) in
    let sum = times_sum a (p -ℤ q) q in
    let whole : a *ℤ p ≡ (a *ℤ (p -ℤ q)) +ℤ (a *ℤ q) = rw parts at sum in
    let turned = swapped a (pos (2 * n)) k in
    let double : pos (2 * n) ≡ pos n +ℤ pos n = omega (arith, ints) in
    let halves = sum_times (pos n) (pos n) (a *ℤ k) in
    let twice : pos (2 * n) *ℤ (a *ℤ k) ≡ (pos n *ℤ (a *ℤ k)) +ℤ (pos n *ℤ (a *ℤ k)) = rw double halves in
    let square = grouped a a d in
    omega (arith, ints, whole, turned, twice, square)

-- ---- the excess, by products

one_axis : (a p : ℤ) → pos (unsigned_abs (a -ℤ p) * unsigned_abs (a -ℤ p)) +ℤ ((a *ℤ p) +ℤ (a *ℤ p)) ≡ (a *ℤ a) +ℤ (p *ℤ p)
one_axis a p = let e = size_square (a -ℤ p) in let s = square_of a p in omega (arith, ints, e, s)

start_axis : (p : ℤ) → pos (unsigned_abs (pos 0 -ℤ p) * unsigned_abs (pos 0 -ℤ p)) ≡ p *ℤ p
start_axis p = let s = one_axis (pos 0) p in let z = zero-*ℤ p in let y = zero-*ℤ (pos 0) in omega (arith, ints, s, z, y)

chord_axis : (a : ℤ) → pos (unsigned_abs (a -ℤ pos 0) * unsigned_abs (a -ℤ pos 0)) ≡ a *ℤ a
chord_axis a = let s = one_axis a (pos 0) in let z = *ℤ-zero a in let y = zero-*ℤ (pos 0) in omega (arith, ints, s, z, y)

chord_is : (a b : ℤ) → pos (chord_square (record { u = a; v = b })) ≡ (a *ℤ a) +ℤ (b *ℤ b)
chord_is a b =
    let sum = square_sum (a -ℤ pos 0) (b -ℤ pos 0) in
    let u = chord_axis a in
    let v = chord_axis b in
    omega (arith, ints, sum, u, v)

excess_is : (a b p q : ℤ) → excess (record { u = a; v = b }) (record { u = p; v = q }) +ℤ (((a *ℤ p) +ℤ (a *ℤ p)) +ℤ ((b *ℤ q) +ℤ (b *ℤ q)))
    ≡ (a *ℤ a) +ℤ (b *ℤ b)
excess_is a b p q =
    let ends = square_sum (a -ℤ p) (b -ℤ q) in
    let starts = square_sum (pos 0 -ℤ p) (pos 0 -ℤ q) in
    let end_u = one_axis a p in
    let end_v = one_axis b q in
    let start_u = start_axis p in
    let start_v = start_axis q in
    omega (arith, ints, ends, starts, end_u, end_v, start_u, start_v)

-- the excess after a move
moved_excess : (a b p q k l : ℤ) → excess (record { u = a; v = b }) (record { u = p +ℤ k; v = q +ℤ l }) +ℤ (((a *ℤ k) +ℤ (a *ℤ k)) +ℤ ((b *ℤ l) +ℤ (b *ℤ l)))
    ≡ excess (record { u = a; v = b }) (record { u = p; v = q })
moved_excess a b p q k l =
    let before = excess_is a b p q in
    let after = excess_is a b (p +ℤ k) (q +ℤ l) in
    let u = times_sum a p k in
    let v = times_sum b q l in
    omega (arith, ints, before, after, u, v)

-- ---- what is left of the excess

combined : (nd nl nw nxx nyy nx ny aad ae bbd be : ℤ) → nd ≡ nl +ℤ nw → nw ≡ nxx +ℤ nyy → nxx ≡ nx +ℤ nx → nyy ≡ ny +ℤ ny →
    nx +ℤ nx ≡ aad +ℤ ae → ny +ℤ ny ≡ bbd +ℤ be → nd ≡ aad +ℤ bbd → nl +ℤ (ae +ℤ be) ≡ pos 0
combined nd nl nw nxx nyy nx ny aad ae bbd be e1 e2 e3 e4 e5 e6 e7 = omega (arith, ints)

product_left : (a b d left : ℤ) (n : ℕ) → pos n ≡ (a *ℤ a) +ℤ (b *ℤ b) →
    left +ℤ (((a *ℤ shift_by a d n) +ℤ (a *ℤ shift_by a d n)) +ℤ ((b *ℤ shift_by b d n) +ℤ (b *ℤ shift_by b d n))) ≡ d →
    (pos n *ℤ left) +ℤ ((a *ℤ rest_of a d n) +ℤ (b *ℤ rest_of b d n)) ≡ pos 0
product_left a b d left n squares whole =
    let x = a *ℤ shift_by a d n in
    let y = b *ℤ shift_by b d n in
    let w = (x +ℤ x) +ℤ (y +ℤ y) in
    let all : pos n *ℤ d ≡ (pos n *ℤ left) +ℤ (pos n *ℤ w) = ap (λ z. pos n *ℤ z) (sym whole) ∙ times_sum (pos n) left w in
    let product : pos n *ℤ d ≡ ((a *ℤ a) *ℤ d) +ℤ ((b *ℤ b) *ℤ d) = ap (λ z. z *ℤ d) squares ∙ sum_times (a *ℤ a) (b *ℤ b) d in
    combined (pos n *ℤ d) (pos n *ℤ left) (pos n *ℤ w) (pos n *ℤ (x +ℤ x)) (pos n *ℤ (y +ℤ y)) (pos n *ℤ x) (pos n *ℤ y)
    ((a *ℤ a) *ℤ d) (a *ℤ rest_of a d n) ((b *ℤ b) *ℤ d) (b *ℤ rest_of b d n)
    all (times_sum (pos n) (x +ℤ x) (y +ℤ y)) (times_sum (pos n) x x) (times_sum (pos n) y y) (along a d n) (along b d n) product

size_sum : (x y z : ℤ) → x +ℤ (y +ℤ z) ≡ pos 0 → unsigned_abs x ≤ unsigned_abs y + unsigned_abs z
size_sum x y z h = omega (arith, ints)

sized : (n l a b r q x y z : ℕ) → 0 < n → x ≤ y + z → x ≡ n * l → y ≡ a * r → z ≡ b * q → r ≤ n → q ≤ n → l ≤ a + b
sized n l a b r q x y z some h xs ys zs rs qs =
    let u = mul-le a r a n (omega arith) rs in
    let v = mul-le b q b n (omega arith) qs in
    within_factor n l (a + b) some (omega arith)

left_small : (a b d left : ℤ) (n : ℕ) → 0 < n → pos n ≡ (a *ℤ a) +ℤ (b *ℤ b) →
    left +ℤ (((a *ℤ shift_by a d n) +ℤ (a *ℤ shift_by a d n)) +ℤ ((b *ℤ shift_by b d n) +ℤ (b *ℤ shift_by b d n))) ≡ d →
    unsigned_abs left ≤ unsigned_abs a + unsigned_abs b
left_small a b d left n some squares whole =
    sized n (unsigned_abs left) (unsigned_abs a) (unsigned_abs b) (unsigned_abs (rest_of a d n)) (unsigned_abs (rest_of b d n))
    (unsigned_abs (pos n *ℤ left)) (unsigned_abs (a *ℤ rest_of a d n)) (unsigned_abs (b *ℤ rest_of b d n)) some
    (size_sum (pos n *ℤ left) (a *ℤ rest_of a d n) (b *ℤ rest_of b d n) (product_left a b d left n squares whole))
    (unsigned_abs-mul (pos n) left) (unsigned_abs-mul a (rest_of a d n)) (unsigned_abs-mul b (rest_of b d n))
    (rest_small a d n some) (rest_small b d n some)

by_excess : (s e : ℕ) → (unsigned_abs (pos e -ℤ pos s) + s ≡ e) ⊎ (unsigned_abs (pos e -ℤ pos s) + e ≡ s)
by_excess s e =
    elim (cases_lt e s) [
      | inl more ↦ (inr (omega (arith, ints)))
      | inr less ↦ (inl (omega (arith, ints)))
    ]

-- the radii of the evened centre
pub even_after : (a b p q : ℤ) (t : ℕ) → 4 ≤ t * t → 0 < chord_square (record { u = a; v = b }) →
    (let e : Point2 = record { u = a; v = b } in
    let c : Point2 = record { u = p; v = q } in
    let moved : Point2 = record { u = p +ℤ shift a e c; v = q +ℤ shift b e c } in
    roots_within t (start_square moved) (end_square e moved) ≡ true)
even_after a b p q t least some =
    let e : Point2 = record { u = a; v = b } in
    let c : Point2 = record { u = p; v = q } in
    let pu = p +ℤ shift a e c in
    let qv = q +ℤ shift b e c in
    let moved : Point2 = record { u = pu; v = qv } in
    let n = chord_square e in
    let d = excess e c in
    let small : unsigned_abs (excess e moved) ≤ unsigned_abs a + unsigned_abs b =
    left_small a b d (excess e moved) n some (chord_is a b) (moved_excess a b p q (shift_by a d n) (shift_by b d n)) in
    let square = sum_square (unsigned_abs (excess e moved)) (unsigned_abs a) (unsigned_abs b) small in
    let u = chord_bound a pu in
    let v = chord_bound b qv in
    let starts = square_sum (pos 0 -ℤ pu) (pos 0 -ℤ qv) in
    let ends = square_sum (a -ℤ pu) (b -ℤ qv) in
    alike_within t (start_square moved) (end_square e moved) (unsigned_abs (excess e moved)) (by_excess (start_square moved) (end_square e moved))
    (omega (arith, square, u, v, starts, ends)) least
