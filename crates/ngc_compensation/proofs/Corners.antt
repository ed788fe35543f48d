-- The point where two lines beside a place meet is beside both.
use Rattle.std.proofs.Common.{◌≡◌, ◌≢◌, ℕ, ◌+◌, ◌*◌, ◌≤◌, ◌<◌, ◌==◌, ℤ, pos, negsuc, ◌+ℤ◌, ◌-ℤ◌, ◌*ℤ◌, unsigned_abs, Bool, true, false, ◌&&◌, if◌then◌else◌, Some, None, arith, ap, sym, ◌∙◌, refl}
use Rattle.std.proofs.lemmas.Bool.Decides.{nat_tests}
use Rattle.std.proofs.lemmas.Int.{ints}
use Rattle.std.proofs.Math.IntN.{*ℤ_comm}
use Rattle.ngc_fixed_length.specs.Places.{from, cross, dot}
use Rattle.ngc_fixed_length.specs.Rounding.{nearest}
use Rattle.ngc_fixed_length.specs.Signed.{is_zero, is_within}
use Rattle.ngc_fixed_length.specs.declared.points.Point2.{Point2}
use Rattle.ngc_fixed_length.proofs.Nearest.{nearest_is}
use Rattle.ngc_compensation.specs.Offsets.{UNIT, TOOL_LIMIT, within_limit, reached}
use Rattle.ngc_compensation.specs.Meetings.{crossed, crossing}
use Rattle.ngc_compensation.specs.Limits.{IsWithin}
use Rattle.ngc_compensation.specs.Laws.{IsBeside, CornersAreBeside}
use Rattle.ngc_compensation.proofs.Products.{times_difference}
use Rattle.ngc_compensation.proofs.Beside.{distance_small}

-- the coordinates of a point that is within the limit
record IsPoint (u v : ℤ) (q : Point2) : Type 0 where
  u_is : q.u ≡ u
  v_is : q.v ≡ v

picked : (b : Bool) (u v : ℤ) (q : Point2) → (if b then Some (record { u = u; v = v }) else None) ≡ Some q → IsPoint u v q
picked true u v q h = grind (arith, h)
picked false u v q h = absurd (cc)

limited_is : (u v : ℤ) (q : Point2) → within_limit u v ≡ Some q → IsPoint u v q
unfolding within_limit
limited_is u v q h = picked (is_within TOOL_LIMIT u && is_within TOOL_LIMIT v) u v q h

first_sum : (a b : Point2) → (a.u *ℤ (b.v -ℤ a.v)) +ℤ (a.v *ℤ (a.u -ℤ b.u)) ≡ cross a b
first_sum a b =
    let p = times_difference a.u b.v a.v in
    let q = times_difference a.v a.u b.u in
    let e = *ℤ_comm a.u a.v in
    omega (arith, ints, p, q, e)

second_sum : (a b : Point2) → (b.u *ℤ (b.v -ℤ a.v)) +ℤ (b.v *ℤ (a.u -ℤ b.u)) ≡ cross a b
second_sum a b =
    let p = times_difference b.u b.v a.v in
    let q = times_difference b.v a.u b.u in
    let e = *ℤ_comm b.u b.v in
    let f = *ℤ_comm b.u a.v in
    let g = *ℤ_comm b.v a.u in
    omega (arith, ints, p, q, e, f, g)

some_size : (x : ℤ) → is_zero x ≡ false → 0 < unsigned_abs x
some_size x h = grind (arith, nat_tests)

not_zero : (x : ℤ) → 0 < unsigned_abs x → x ≢ pos 0
not_zero x h e = absurd (omega (arith, ints, h, e))

beside_by : (o a b c q : Point2) (r : ℕ) → 0 < unsigned_abs (cross a b) → IsWithin UNIT c → (c.u *ℤ (b.v -ℤ a.v)) +ℤ (c.v *ℤ (a.u -ℤ b.u)) ≡ cross a b →
    IsPoint (o.u +ℤ nearest ((b.v -ℤ a.v) *ℤ pos (r * UNIT)) (cross a b)) (o.v +ℤ nearest ((a.u -ℤ b.u) *ℤ pos (r * UNIT)) (cross a b)) q → IsBeside o r c q
beside_by o a b c q r some within sum point =
    let x = cross a b in
    let p = nearest ((b.v -ℤ a.v) *ℤ pos (r * UNIT)) x in
    let s = nearest ((a.u -ℤ b.u) *ℤ pos (r * UNIT)) x in
    let un = nearest_is ((b.v -ℤ a.v) *ℤ pos (r * UNIT)) x (not_zero x some) in
    let vn = nearest_is ((a.u -ℤ b.u) *ℤ pos (r * UNIT)) x (not_zero x some) in
    let u : q.u -ℤ o.u ≡ p = omega (arith, ints, point.u_is) in
    let v : q.v -ℤ o.v ≡ s = omega (arith, ints, point.v_is) in
    rw (u, v) (distance_small UNIT c.u c.v (b.v -ℤ a.v) (a.u -ℤ b.u) x (pos (r * UNIT)) p s some sum within.0 within.1 un.near vn.near)

tested : (z : Bool) (o a b q : Point2) (r : ℕ) → is_zero (cross a b) ≡ z → IsWithin UNIT a → IsWithin UNIT b → (if z then None else crossed o r a b (cross a b)) ≡ Some q → IsBeside o r a q × IsBeside o r b q
unfolding crossed
tested true o a b q r e wa wb h = absurd (cc)
tested false o a b q r e wa wb h =
    let some = some_size (cross a b) e in
    let point = limited_is (o.u +ℤ nearest ((b.v -ℤ a.v) *ℤ pos (r * UNIT)) (cross a b)) (o.v +ℤ nearest ((a.u -ℤ b.u) *ℤ pos (r * UNIT)) (cross a b)) q h in
    (beside_by o a b a q r some wa (first_sum a b) point, beside_by o a b b q r some wb (second_sum a b) point)

pub corners_are_beside : CornersAreBeside
corners_are_beside o r a b q wa wb h = tested (is_zero (cross a b)) o a b q r refl wa wb h
