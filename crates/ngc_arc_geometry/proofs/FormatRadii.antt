-- In both formats the radii of an arc are within their bounds, wherever its ends lie.
use Rattle.std.proofs.Common.{◌≡◌, ℕ, ◌-◌, ◌*◌, ◌/◌, ◌^◌, ◌≤◌, ◌<◌, ◌==◌, nat_le, nat_lt, ℤ, pos, negsuc, ◌+ℤ◌, ◌-ℤ◌, ◌*ℤ◌, neg_ℤ, unsigned_abs, Bool, true}
use Rattle.std.proofs.Common.{false, not, Result, Ok, Err, refl, subst, lit≤, arith}
use Rattle.std.specs.Int.{int_signum}
use Rattle.std.specs.Prelude.{if◌then◌else◌}
use Rattle.std.proofs.lemmas.Bool.Decides.{nat_tests}
use Rattle.std.proofs.lemmas.Int.{ints, unsigned_abs-mul}
use Rattle.std.proofs.lemmas.Nat.{mul-le, div_below}
use Rattle.ngc_fixed_length.specs.Signed.{is_negative}
use Rattle.ngc_fixed_length.specs.Places.{shifted}
use Rattle.ngc_fixed_length.specs.Roots.{whole_root}
use Rattle.ngc_fixed_length.specs.declared.modes.Turn.{Turn}
use Rattle.ngc_fixed_length.specs.declared.modes.Turn.TheVariants.{Clockwise, Counterclockwise}
use Rattle.ngc_fixed_length.specs.declared.points.Point2.{Point2}
use Rattle.ngc_fixed_length.specs.declared.units.Units.{Units}
use Rattle.ngc_fixed_length.specs.declared.units.Units.TheVariants.{Millimetres, Inches}
use Rattle.ngc_fixed_length.proofs.RootLaws.{whole_root-greatest}
use Rattle.ngc_arc_geometry.specs.Shape.{ArcShape}
use Rattle.ngc_arc_geometry.specs.declared.given.Ends.{Ends}
use Rattle.ngc_arc_geometry.specs.declared.given.Offsets.{Offsets}
use Rattle.ngc_arc_geometry.specs.declared.fault.ArcFault.{ArcFault}
use Rattle.ngc_arc_geometry.specs.declared.fault.ArcFault.TheVariants.{RadiiDiffer, RadiusTooSmall, RadiusOutOfRange}
use Rattle.ngc_arc_geometry.specs.Faults.{◌>>=◌, ◌>>◌, refuse_if}
use Rattle.ngc_arc_geometry.specs.Tolerance.{tolerance}
use Rattle.ngc_arc_geometry.specs.Chord.{aside, side}
use Rattle.ngc_arc_geometry.specs.Radii.{lo, hi, SQUARE_LIMIT, roots_within, with_equal_radii, start_radius, end_radius, HasRadiiInRange, HasEvenRadii}
use Rattle.ngc_arc_geometry.specs.Centre.{arc_about, offset_centre, centre_format, chord, chord_square, middle, aside_point, reach, radius_centre}
use Rattle.ngc_arc_geometry.specs.Centre.{radius_format}
use Rattle.ngc_arc_geometry.proofs.Squares.{square_sum}
use Rattle.ngc_arc_geometry.proofs.RadiiLemmas.{greater_bound, even_roots}
use Rattle.ngc_arc_geometry.proofs.ChordLemmas.{aside_square, aside_bound}
use Rattle.ngc_arc_geometry.proofs.CentreRange.{range_at_middle, range_aside}
use Rattle.ngc_arc_geometry.proofs.Machine.{size_of_negative}

-- ---- steps that did not refuse

-- the result of a step after another
last_of : {A : Type 0} (x : Result (Unit {0}) ArcFault) (r : Result A ArcFault) (a : A) → (x >> r) ≡ Ok a → r ≡ Ok a
last_of (Ok u) r a h = h
last_of (Err e) r a h = absurd (cc h)

-- the step before it did not refuse
first_of : {A : Type 0} (x : Result (Unit {0}) ArcFault) (r : Result A ArcFault) (a : A) → (x >> r) ≡ Ok a → x ≡ Ok tt
first_of (Ok u) r a h = refl
first_of (Err e) r a h = absurd (cc h)

not_so : (b : Bool) (e : ArcFault) → refuse_if b e ≡ Ok tt → b ≡ false
not_so true e h = absurd (cc h)
not_so false e h = refl

-- the consequences of failed tests
above_zero : (n : ℕ) → (n == 0) ≡ false → 0 < n
above_zero n h = grind (arith, nat_tests)

not_over : (limit n : ℕ) → nat_lt limit n ≡ false → n ≤ limit
not_over limit n h = grind (arith, nat_tests)

so : (b : Bool) → not b ≡ false → b ≡ true
so true h = refl
so false h = absurd (cc h)

same_arc : (a b : ArcShape) → (let x : Result ArcShape ArcFault = Ok a in let y : Result ArcShape ArcFault = Ok b in x ≡ y) → a ≡ b
same_arc a b h = cc

-- ---- radii that are compared

tolerance_small : (units : Units) → tolerance units ≤ 5080
tolerance_small Millimetres = lit≤ tt
tolerance_small Inches = lit≤ tt

even_where_equal : (t : ℕ) (s a : ArcShape) → t ≤ 5080 → HasRadiiInRange s → with_equal_radii t s ≡ Ok a → HasEvenRadii a
even_where_equal t s a small range h =
    let some_test = refuse_if (lo s == 0) RadiusOutOfRange in
    let differ = RadiiDiffer (start_radius s) (end_radius s) in
    let near_test = refuse_if (not (roots_within t (lo s) (hi s))) differ in
    let both = first_of (some_test >> near_test) (Ok s) a h in
    let some = above_zero (lo s) (not_so (lo s == 0) RadiusOutOfRange (first_of some_test near_test tt both)) in
    let near = so (roots_within t (lo s) (hi s)) (not_so (not (roots_within t (lo s) (hi s))) differ (last_of some_test near_test tt both)) in
    let order : lo s ≤ hi s = omega arith in
    let radius = greater_bound t (lo s) (hi s) small order range near in
    let even = even_roots t (lo s) (hi s) order radius near in
    subst HasEvenRadii (same_arc s a (last_of (some_test >> near_test) (Ok s) a h)) (record { some_radius = some; radius = radius; even = omega (arith, even) })

-- ---- centre format: the greater radius is in range

range_within : (a : ArcShape) → hi a ≤ SQUARE_LIMIT → HasRadiiInRange a
range_within a limit = omega arith

pub radii_of_centre : (units : Units) (e : Ends) (o : Offsets) (a : ArcShape) → centre_format units e o ≡ Ok a → HasEvenRadii a
radii_of_centre units e o a h =
    let s : ArcShape = arc_about e (offset_centre e o) in
    let found = with_equal_radii (tolerance units) s in
    let limit = not_over SQUARE_LIMIT (hi s) (not_so _ _ (last_of _ _ tt (first_of _ found a h))) in
    even_where_equal (tolerance units) s a (tolerance_small units) (range_within s limit) (last_of _ found a h)

-- ---- radius format: the word R is in range, and the centre is found from the chord's middle

-- the offset from the middle along one axis, from its square
square_aside : (q d2 : ℕ) (k : ℤ) → 0 < d2 → d2 ≤ 4 * q → q ≤ 4000000000000000000 → unsigned_abs k * unsigned_abs k ≤ d2
    → 4 * d2 * (unsigned_abs (aside q d2 k) * unsigned_abs (aside q d2 k)) ≤ unsigned_abs k * unsigned_abs k * (4 * q - d2)
square_aside q d2 k positive reached limit part =
    let k2 = unsigned_abs k * unsigned_abs k in
    let n = k2 * (4 * q - d2) / (4 * d2) in
    let whole : k2 * (4 * q - d2) ≤ d2 * 16000000000000000000 = mul-le k2 (4 * q - d2) d2 16000000000000000000 part (omega arith) in
    let small : n < 4 ^ 64 = div_below (k2 * (4 * q - d2)) (4 * d2) (4 ^ 64) (omega arith) (omega arith) in
    aside_square k2 (4 * q - d2) d2 (whole_root n) (whole_root-greatest n small).square

-- a sign keeps the size, or gives 0
signed_size : (s g z : ℤ) → unsigned_abs s ≤ 1 → unsigned_abs g ≤ 1 → unsigned_abs (s *ℤ g *ℤ z) ≤ unsigned_abs z
signed_size s g z s_one g_one =
    let signs = mul-le (unsigned_abs s) (unsigned_abs g) 1 1 s_one g_one in
    let all = mul-le (unsigned_abs s * unsigned_abs g) (unsigned_abs z) 1 (unsigned_abs z) signs (omega arith) in
    rw (unsigned_abs-mul (s *ℤ g) z, unsigned_abs-mul s g) (omega (arith, all))

side_size : (turn : Turn) (is_long : Bool) → unsigned_abs (side turn is_long) ≤ 1
side_size Counterclockwise false = lit≤ tt
side_size Clockwise true = lit≤ tt
side_size Counterclockwise true = lit≤ tt
side_size Clockwise false = lit≤ tt

sign_size : (z : ℤ) → unsigned_abs (int_signum z) ≤ 1
sign_size (pos n) = omega arith
sign_size (negsuc n) = lit≤ tt

moved_by : (x z : ℤ) (n : ℕ) → unsigned_abs z ≤ n → unsigned_abs ((x +ℤ z) -ℤ x) ≤ n
moved_by x z n h = omega (arith, ints)

-- the centre is beside the middle if the radius reaches it
range_where_reached : (e : Ends) (q : ℕ) (is_long : Bool) → 0 < chord_square e → chord_square e ≤ 4 * q → q ≤ 4000000000000000000
    → HasRadiiInRange (arc_about e (shifted (middle e) (aside_point (side e.turn is_long) q (chord_square e) (chord e))))
range_where_reached e q is_long positive reached limit =
    let d = chord e in
    let s = side e.turn is_long in
    let d2 = chord_square e in
    let u = aside q d2 d.v in
    let v = aside q d2 d.u in
    let squares = square_sum d.u d.v in
    let u2 = square_aside q d2 d.v positive reached limit (omega (arith, squares)) in
    let v2 = square_aside q d2 d.u positive reached limit (omega (arith, squares)) in
    let u_most = aside_bound (unsigned_abs d.v * unsigned_abs d.v) q d2 (unsigned_abs u) positive reached limit (omega (arith, squares)) u2 in
    let v_most = aside_bound (unsigned_abs d.u * unsigned_abs d.u) q d2 (unsigned_abs v) positive reached limit (omega (arith, squares)) v2 in
    let u_size : unsigned_abs (neg_ℤ (s *ℤ int_signum d.v *ℤ u)) ≤ unsigned_abs u =
    rw size_of_negative (signed_size s (int_signum d.v) u (side_size e.turn is_long) (sign_size d.v)) in
    let v_size = signed_size s (int_signum d.u) v (side_size e.turn is_long) (sign_size d.u) in
    range_aside e (shifted (middle e) (aside_point s q d2 d)) q (unsigned_abs u) (unsigned_abs v)
    (moved_by (middle e).u (neg_ℤ (s *ℤ int_signum d.v *ℤ u)) (unsigned_abs u) u_size)
    (moved_by (middle e).v (s *ℤ int_signum d.u *ℤ v) (unsigned_abs v) v_size)
    positive reached limit u_most v_most u2 v2

same_centre : (p q : Point2) → (let x : Result Point2 ArcFault = Ok p in let y : Result Point2 ArcFault = Ok q in x ≡ y) → p ≡ q
same_centre p q h = cc

-- the consequence of a test that holds
at_most : (n m : ℕ) → nat_le n m ≡ true → n ≤ m
at_most n m h = grind (arith, nat_tests)

-- the same, for each result of the tests
range_by_tests : (t : ℕ) (e : Ends) (r : ℤ) (centre : Point2) (is_reached is_near : Bool) → t ≤ 5080 → 0 < chord_square e →
    unsigned_abs r * unsigned_abs r ≤ 4000000000000000000
    → nat_le (chord_square e) (4 * (unsigned_abs r * unsigned_abs r)) ≡ is_reached → nat_le (chord_square e) (reach (unsigned_abs r) t) ≡ is_near
    → (let beside : Result Point2 ArcFault =
    Ok (shifted (middle e) (aside_point (side e.turn (is_negative r)) (unsigned_abs r * unsigned_abs r) (chord_square e) (chord e))) in
    let found : Result Point2 ArcFault = (if is_reached then beside else (if is_near then Ok (middle e) else Err RadiusTooSmall)) in found ≡ Ok centre)
    → HasRadiiInRange (arc_about e centre)
range_by_tests t e r centre true is_near small positive limit reached near is =
    subst (λ (c : Point2). HasRadiiInRange (arc_about e c)) (same_centre _ centre is)
    (range_where_reached e (unsigned_abs r * unsigned_abs r) (is_negative r) positive (at_most _ _ reached) limit)
range_by_tests t e r centre false true small positive limit reached near is =
    subst (λ (c : Point2). HasRadiiInRange (arc_about e c)) (same_centre (middle e) centre is)
    (range_at_middle e t (unsigned_abs r) limit small (at_most _ _ near))
range_by_tests t e r centre false false small positive limit reached near is = absurd (cc is)

range_about : (t : ℕ) (e : Ends) (r : ℤ) (centre : Point2) → t ≤ 5080 → 0 < chord_square e → unsigned_abs r * unsigned_abs r ≤ 4000000000000000000 →
    radius_centre t e r ≡ Ok centre
    → HasRadiiInRange (arc_about e centre)
range_about t e r centre small positive limit is = range_by_tests t e r centre _ _ small positive limit refl refl is

even_about : (t : ℕ) (e : Ends) (r : Result Point2 ArcFault) (a : ArcShape) → t ≤ 5080 →
    ((centre : Point2) → r ≡ Ok centre → HasRadiiInRange (arc_about e centre))
    → (r >>= λ centre. with_equal_radii t (arc_about e centre)) ≡ Ok a → HasEvenRadii a
even_about t e (Ok centre) a small range h = even_where_equal t (arc_about e centre) a small (range centre refl) h
even_about t e (Err fault) a small range h = absurd (cc h)

pub radii_of_radius : (units : Units) (e : Ends) (r : ℤ) (a : ArcShape) → radius_format units e r ≡ Ok a → HasEvenRadii a
radii_of_radius units e r a h =
    let t = tolerance units in
    let found = radius_centre t e r >>= λ centre. with_equal_radii t (arc_about e centre) in
    let tests = first_of _ found a h in
    let limit = not_over SQUARE_LIMIT (unsigned_abs r * unsigned_abs r) (not_so _ _ (last_of _ _ tt tests)) in
    let positive = above_zero (chord_square e) (not_so _ _ (last_of _ _ tt (first_of _ _ tt (first_of _ _ tt tests)))) in
    even_about t e (radius_centre t e r) a (tolerance_small units) (λ centre is. range_about t e r centre (tolerance_small units) positive limit is)
    (last_of _ found a h)
