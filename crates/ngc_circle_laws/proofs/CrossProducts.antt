-- Cross products about an arc's centre, by quadrants.
use Rattle.std.proofs.Common.{◌≡◌, ℕ, zero, suc, ◌+◌, ◌*◌, ◌<◌, ◌≤◌, ℤ, pos, negsuc, ◌+ℤ◌, ◌-ℤ◌, ◌*ℤ◌, neg_ℤ, ◌≤ℤ◌, ◌⊎◌, inl, inr, refl, sym, ◌∙◌, ap, subst}
use Rattle.std.proofs.Common.{arith}
use Rattle.std.specs.Prelude.{true, false, int_le}
use Rattle.std.proofs.lemmas.Bool.{cases_lt}
use Rattle.std.proofs.lemmas.Int.{ints}
use borrow.Author.Differences.{neg_is}
use Rattle.ngc_fixed_length.specs.Places.{cross, dot, from, shifted}
use Rattle.ngc_fixed_length.specs.declared.modes.Turn.{Turn}
use Rattle.ngc_fixed_length.specs.declared.modes.Turn.TheVariants.{Clockwise, Counterclockwise}
use Rattle.ngc_fixed_length.specs.declared.points.Point2.{Point2}
use Rattle.ngc_circle_walk.specs.declared.spoke.Quadrant.{Quadrant}
use Rattle.ngc_circle_walk.specs.declared.spoke.Quadrant.TheVariants.{First, Second, Third, Fourth}
use Rattle.ngc_circle_walk.specs.declared.spoke.Spoke.{Spoke}
use Rattle.ngc_circle_walk.specs.Quadrants.{following}
use Rattle.ngc_circle_walk.specs.Around.{around}
use Rattle.ngc_circle_walk.proofs.QuadrantTurns.{cross_same, cross_next, cross_opposite, cross_behind}
use Rattle.ngc_circle_walk.specs.Directions.{IsAhead}
use Rattle.ngc_arc_geometry.specs.Shape.{ArcShape}
use Rattle.ngc_arc_geometry.specs.Sector.{turning, turn_from, is_ahead}
use Rattle.ngc_arc_geometry.proofs.Points.{same_point}
use Rattle.ngc_circle_laws.specs.Placed.{mirrored, placed, turned_by}

-- ---- signs

pub twice : (n : ℕ) → neg_ℤ (neg_ℤ (pos n)) ≡ pos n
twice zero = refl
twice (suc n) = refl

pub times_neg : (x y : ℤ) → (x *ℤ neg_ℤ y) ≡ neg_ℤ (x *ℤ y)
times_neg (pos a) (pos zero) = let e : a * 0 ≡ 0 = omega arith in rw e refl
times_neg (pos a) (pos (suc b)) = refl
times_neg (pos a) (negsuc b) = sym (twice (a * suc b))
times_neg (negsuc a) (pos zero) = let e : suc a * 0 ≡ 0 = omega arith in rw e refl
times_neg (negsuc a) (pos (suc b)) = sym (twice (suc a * suc b))
times_neg (negsuc a) (negsuc b) = refl

pub neg_times : (x y : ℤ) → (neg_ℤ x *ℤ y) ≡ neg_ℤ (x *ℤ y)
neg_times (pos zero) (pos b) = let e : 0 * b ≡ 0 = omega arith in rw e refl
neg_times (pos zero) (negsuc b) = let e : 0 * suc b ≡ 0 = omega arith in rw e refl
neg_times (pos (suc a)) (pos b) = refl
neg_times (pos (suc a)) (negsuc b) = sym (twice (suc a * suc b))
neg_times (negsuc a) (pos b) = sym (twice (suc a * b))
neg_times (negsuc a) (negsuc b) = refl

pub negs_times : (x y : ℤ) → (neg_ℤ x *ℤ neg_ℤ y) ≡ x *ℤ y
negs_times (pos zero) (pos zero) = refl
negs_times (pos zero) (pos (suc b)) = let e : 0 * suc b ≡ 0 = omega arith in rw e refl
negs_times (pos zero) (negsuc b) = let e : 0 * suc b ≡ 0 = omega arith in rw e refl
negs_times (pos (suc a)) (pos zero) = let e : suc a * 0 ≡ 0 = omega arith in rw e refl
negs_times (pos (suc a)) (pos (suc b)) = refl
negs_times (pos (suc a)) (negsuc b) = refl
negs_times (negsuc a) (pos zero) = let e : suc a * 0 ≡ 0 = omega arith in rw e refl
negs_times (negsuc a) (pos (suc b)) = refl
negs_times (negsuc a) (negsuc b) = refl

pub back : (c : Point2) (d : Point2) → from c (shifted c d) ≡ d
back c d = same_point _ _ _ _ (omega (arith, ints)) (omega (arith, ints))

-- the mirror reverses the direction
turned_cross : (t : Turn) (d e : Point2) → turning t (cross (mirrored t d) (mirrored t e)) ≡ cross d e
turned_cross Counterclockwise d e = refl
turned_cross Clockwise d e =
    let p = d.u *ℤ e.v in
    let q = d.v *ℤ e.u in
    let a = neg_is p in
    let b = neg_is q in
    let c = neg_is (neg_ℤ p -ℤ neg_ℤ q) in
    rw (times_neg d.u e.v, neg_times d.v e.u) (omega (arith, ints, a.0, a.1, b.0, b.1, c.0, c.1))

turned_dot : (t : Turn) (d e : Point2) → dot (mirrored t d) (mirrored t e) ≡ dot d e
turned_dot Counterclockwise d e = refl
turned_dot Clockwise d e = rw (negs_times d.v e.v) refl

pub turn_placed : (a : ArcShape) (s t : Spoke) → turn_from a (placed a s) (placed a t) ≡ cross (around s.quadrant s.x s.y) (around t.quadrant t.x t.y)
turn_placed a s t =
    let d = around s.quadrant s.x s.y in
    let e = around t.quadrant t.x t.y in
    let m = mirrored a.turn d in
    let n = mirrored a.turn e in
    ap (λ (p : Point2). turning a.turn (cross p (from a.centre (shifted a.centre n)))) (back a.centre m)
    ∙ ap (λ (p : Point2). turning a.turn (cross m p)) (back a.centre n) ∙ turned_cross a.turn d e

pub dot_placed : (a : ArcShape) (s t : Spoke) → dot (from a.centre (placed a s)) (from a.centre (placed a t))
    ≡ dot (around s.quadrant s.x s.y) (around t.quadrant t.x t.y)
dot_placed a s t =
    let d = around s.quadrant s.x s.y in
    let e = around t.quadrant t.x t.y in
    let m = mirrored a.turn d in
    let n = mirrored a.turn e in
    ap (λ (p : Point2). dot p (from a.centre (shifted a.centre n))) (back a.centre m) ∙ ap (λ (p : Point2). dot m p) (back a.centre n) ∙ turned_dot a.turn d e

-- ---- four quadrants further on is the same quadrant

pub four_on : (q : Quadrant) → following (following (following (following q))) ≡ q
four_on First = refl
four_on Second = refl
four_on Third = refl
four_on Fourth = refl

-- the end of a quadrant is the beginning of the next
pub same_axis : (q : Quadrant) (y : ℕ) → around q 0 y ≡ around (following q) y 0
same_axis First y = refl
same_axis Second y = refl
same_axis Third y = refl
same_axis Fourth y = refl

-- ---- ahead and afterwards

-- the cross product of a point (x, y) of some quadrant and a point (z, w) n quadrants further on is
-- below 0
abbrev pub IsBehind : ℕ → ℕ → ℕ → ℕ → ℕ → Type 0
IsBehind zero x y z w = x * w < y * z
IsBehind (suc zero) x y z w = ⊥
IsBehind (suc (suc zero)) x y z w = y * z < x * w
IsBehind (suc (suc (suc zero))) x y z w = 0 < x * z + y * w
IsBehind (suc (suc (suc (suc n)))) x y z w = x * w < y * z

pub ahead_or_behind : (n x y z w : ℕ) → IsAhead n x y z w ⊎ IsBehind n x y z w
ahead_or_behind zero x y z w = elim (cases_lt (x * w) (y * z)) [ inl less ↦ inr less | inr more ↦ inl more ]
ahead_or_behind (suc zero) x y z w = inl tt
ahead_or_behind (suc (suc zero)) x y z w = elim (cases_lt (y * z) (x * w)) [ inl less ↦ inr less | inr more ↦ inl more ]
ahead_or_behind (suc (suc (suc zero))) x y z w = elim (cases_lt 0 (x * z + y * w)) [ inl less ↦ inr less | inr more ↦ inl more ]
ahead_or_behind (suc (suc (suc (suc n)))) x y z w = elim (cases_lt (x * w) (y * z)) [ inl less ↦ inr less | inr more ↦ inl more ]

pub ahead_sign : (n : ℕ) (q : Quadrant) (x y z w : ℕ) → n ≤ 4 → IsAhead n x y z w → pos 0 ≤ℤ cross (around q x y) (around (turned_by n q) z w)
ahead_sign zero q x y z w few h = rw (cross_same q x y z w) (omega (arith, ints, h))
ahead_sign (suc zero) q x y z w few h = rw (cross_next q x y z w) (omega (arith, ints))
ahead_sign (suc (suc zero)) q x y z w few h = rw (cross_opposite q x y z w) (omega (arith, ints, h))
ahead_sign (suc (suc (suc zero))) q x y z w few h = let e = neg_is (pos (x * z + y * w)) in rw (cross_behind q x y z w) (omega (arith, ints, h, e.0, e.1))
ahead_sign (suc (suc (suc (suc zero)))) q x y z w few h = rw (four_on q, cross_same q x y z w) (omega (arith, ints, h))
ahead_sign (suc (suc (suc (suc (suc n))))) q x y z w few h = absurd (omega (arith, few))

pub behind_sign : (n : ℕ) (q : Quadrant) (x y z w : ℕ) → n ≤ 4 → IsBehind n x y z w → (cross (around q x y) (around (turned_by n q) z w) +ℤ pos 1) ≤ℤ pos 0
behind_sign zero q x y z w few h = rw (cross_same q x y z w) (omega (arith, ints, h))
behind_sign (suc zero) q x y z w few h = absurd h
behind_sign (suc (suc zero)) q x y z w few h = rw (cross_opposite q x y z w) (omega (arith, ints, h))
behind_sign (suc (suc (suc zero))) q x y z w few h = let e = neg_is (pos (x * z + y * w)) in rw (cross_behind q x y z w) (omega (arith, ints, h, e.0, e.1))
behind_sign (suc (suc (suc (suc zero)))) q x y z w few h = rw (four_on q, cross_same q x y z w) (omega (arith, ints, h))
behind_sign (suc (suc (suc (suc (suc n))))) q x y z w few h = absurd (omega (arith, few))

int_true : (z : ℤ) → pos 0 ≤ℤ z → int_le (pos 0) z ≡ true
int_true (pos n) h = grind (arith, ints)
int_true (negsuc n) h = absurd (omega (arith, ints, h))

int_false : (z : ℤ) → (z +ℤ pos 1) ≤ℤ pos 0 → int_le (pos 0) z ≡ false
int_false (pos n) h = absurd (omega (arith, ints, h))
int_false (negsuc n) h = refl

pub is_ahead_true : (a : ArcShape) (s t : Spoke) (n : ℕ) → n ≤ 4 → t.quadrant ≡ turned_by n s.quadrant → IsAhead n s.x s.y t.x t.y →
    is_ahead a (placed a s) (placed a t) ≡ true
is_ahead_true a s t n few e h =
    let sign : pos 0 ≤ℤ cross (around s.quadrant s.x s.y) (around t.quadrant t.x t.y) = rw e (ahead_sign n s.quadrant s.x s.y t.x t.y few h) in
    int_true (turn_from a (placed a s) (placed a t)) (subst (λ z. pos 0 ≤ℤ z) (sym (turn_placed a s t)) sign)

pub is_ahead_false : (a : ArcShape) (s t : Spoke) (n : ℕ) → n ≤ 4 → t.quadrant ≡ turned_by n s.quadrant → IsBehind n s.x s.y t.x t.y →
    is_ahead a (placed a s) (placed a t) ≡ false
is_ahead_false a s t n few e h =
    let sign : (cross (around s.quadrant s.x s.y) (around t.quadrant t.x t.y) +ℤ pos 1) ≤ℤ pos 0 = rw e (behind_sign n s.quadrant s.x s.y t.x t.y few h) in
    int_false (turn_from a (placed a s) (placed a t)) (subst (λ z. (z +ℤ pos 1) ≤ℤ pos 0) (sym (turn_placed a s t)) sign)
