-- In radius format the squared radii stay in range.
use Rattle.std.proofs.Common.{ℕ, ◌+◌, ◌-◌, ◌*◌, ◌≤◌, ◌<◌, ◌-ℤ◌, unsigned_abs, arith, refl}
use Rattle.std.proofs.lemmas.Int.{ints}
use Rattle.std.proofs.lemmas.Nat.{mul-le}
use Rattle.ngc_fixed_length.specs.declared.points.Point2.{Point2}
use Rattle.ngc_arc_geometry.specs.declared.given.Ends.{Ends}
use Rattle.ngc_arc_geometry.specs.Radii.{squared_distance, HasRadiiInRange}
use Rattle.ngc_arc_geometry.specs.Centre.{arc_about, start_in, end_in, chord, chord_square, middle}
use Rattle.ngc_arc_geometry.proofs.Squares.{from_squares, square_sum}
use Rattle.ngc_arc_geometry.proofs.CentreLemmas.{plane_sum, aside_squares, min_max_sum}

-- from the sum of both squared distances
from_sum : (e : Ends) (c : Point2) → squared_distance c (start_in e) + squared_distance c (end_in e) ≤ 2 * (2000006000 * 2000006000) →
    HasRadiiInRange (arc_about e c)
from_sum e c h = rw (min_max_sum (squared_distance c (start_in e)) (squared_distance c (end_in e))) h

pub range_at_middle : (e : Ends) (t r : ℕ) → r * r ≤ 4000000000000000000 → t ≤ 5080 → chord_square e ≤ 4 * (r + t) * (r + t) →
    HasRadiiInRange (arc_about e (middle e))
range_at_middle e t r limit small reached =
    let r_small : r ≤ 2000000000 = from_squares r 2000000000 (omega arith) in
    let reach : (r + t) * (r + t) ≤ 2000005080 * 2000005080 = mul-le (r + t) (r + t) 2000005080 2000005080 (omega arith) (omega arith) in
    let sum = plane_sum (start_in e) (end_in e) (middle e) (middle e) 0 0 refl refl (omega (arith, ints)) (omega (arith, ints)) in
    from_sum e (middle e) (omega (arith, sum, reach))

pub range_aside : (e : Ends) (c : Point2) (q hu hv : ℕ) → unsigned_abs (c.u -ℤ (middle e).u) ≤ hu → unsigned_abs (c.v -ℤ (middle e).v) ≤ hv →
    0 < chord_square e → chord_square e ≤ 4 * q → q ≤ 4000000000000000000 → hu ≤ 2000000000 → hv ≤ 2000000000 →
    4 * chord_square e * (hu * hu) ≤ unsigned_abs (chord e).v * unsigned_abs (chord e).v * (4 * q - chord_square e) →
    4 * chord_square e * (hv * hv) ≤ unsigned_abs (chord e).u * unsigned_abs (chord e).u * (4 * q - chord_square e) → HasRadiiInRange (arc_about e c)
range_aside e c q hu hv nu nv positive reached limit su sv asideu asidev =
    let d2 = square_sum (chord e).u (chord e).v in
    let squares = aside_squares (unsigned_abs (chord e).u * unsigned_abs (chord e).u) (unsigned_abs (chord e).v * unsigned_abs (chord e).v)
    (4 * q - chord_square e) hv hu (rw (← d2) positive) (rw (← d2) asidev) (rw (← d2) asideu) in
    let sum = plane_sum (start_in e) (end_in e) (middle e) c hu hv refl refl nu nv in
    from_sum e c (omega (arith, sum, squares))
