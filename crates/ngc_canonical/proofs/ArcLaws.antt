-- An arc begins and ends at the points of its words.
use Rattle.std.proofs.Common.{◌≡◌, ℕ, ℤ, Result, Ok, Err, ap, sym}
use Rattle.std.specs.Prelude.{not, is_none, ◌&&◌, nat_lt}
use Rattle.ngc_fixed_length.specs.declared.points.Point2.{Point2}
use Rattle.ngc_fixed_length.specs.declared.units.Units.{Units}
use Rattle.ngc_arc_geometry.specs.Centre.{arc_about, offset_centre, centre_format, radius_centre, radius_format}
use Rattle.ngc_arc_geometry.specs.Faults.{◌>>=◌, ◌>>◌, refuse_if}
use Rattle.ngc_arc_geometry.specs.Radii.{SQUARE_LIMIT, hi, with_equal_radii}
use Rattle.ngc_arc_geometry.specs.Shape.{ArcShape}
use Rattle.ngc_arc_geometry.specs.Tolerance.{tolerance}
use Rattle.ngc_arc_geometry.specs.declared.fault.ArcFault.{ArcFault}
use Rattle.ngc_arc_geometry.specs.declared.fault.ArcFault.TheVariants.{NoAxisWord, NoOffset, RadiusOutOfRange}
use Rattle.ngc_arc_geometry.specs.declared.given.Ends.{Ends}
use Rattle.ngc_arc_geometry.specs.declared.given.Offsets.{Offsets}

-- the result of a step that follows another step
last_of : (x : Result (Unit {0}) ArcFault) (r : Result ArcShape ArcFault) (a : ArcShape) → (x >> r) ≡ Ok a → r ≡ Ok a
last_of (Ok u) r a h = h
last_of (Err e) r a h = cc

same_arc : (a b : ArcShape) → (let x : Result ArcShape ArcFault = Ok a in let y : Result ArcShape ArcFault = Ok b in x ≡ y) → a ≡ b
same_arc a b h = cc

-- the arc whose radii are compared is the result
arc_compared : (t : ℕ) (s a : ArcShape) → with_equal_radii t s ≡ Ok a → s ≡ a
arc_compared t s a h = same_arc s a (last_of _ (Ok s) a h)

end_of_equal : (t : ℕ) (s a : ArcShape) → with_equal_radii t s ≡ Ok a → a.end ≡ s.end
end_of_equal t s a h = sym (ap (λ (x : ArcShape). x.end) (arc_compared t s a h))

start_of_equal : (t : ℕ) (s a : ArcShape) → with_equal_radii t s ≡ Ok a → a.start ≡ s.start
start_of_equal t s a h = sym (ap (λ (x : ArcShape). x.start) (arc_compared t s a h))

-- ---- centre format

of_centre : (units : Units) (e : Ends) (o : Offsets) (a : ArcShape) → centre_format units e o ≡ Ok a →
    with_equal_radii (tolerance units) (arc_about e (offset_centre e o)) ≡ Ok a
of_centre units e o a h =
    let s : ArcShape = arc_about e (offset_centre e o) in
    last_of
    (refuse_if (not e.has_axis_word) NoAxisWord >> refuse_if (is_none o.u && is_none o.v) NoOffset >> refuse_if (nat_lt SQUARE_LIMIT (hi s)) RadiusOutOfRange)
    (with_equal_radii (tolerance units) s) a h

pub start_of_centre : (units : Units) (e : Ends) (o : Offsets) (a : ArcShape) → centre_format units e o ≡ Ok a → a.start ≡ e.start
start_of_centre units e o a h = start_of_equal (tolerance units) (arc_about e (offset_centre e o)) a (of_centre units e o a h)

pub end_of_centre : (units : Units) (e : Ends) (o : Offsets) (a : ArcShape) → centre_format units e o ≡ Ok a → a.end ≡ e.end
end_of_centre units e o a h = end_of_equal (tolerance units) (arc_about e (offset_centre e o)) a (of_centre units e o a h)

-- ---- radius format

start_about : (t : ℕ) (e : Ends) (r : Result Point2 ArcFault) (a : ArcShape) → (r >>= λ centre. with_equal_radii t (arc_about e centre)) ≡ Ok a →
    a.start ≡ e.start
start_about t e (Ok centre) a h = start_of_equal t (arc_about e centre) a h
start_about t e (Err fault) a h = cc

pub start_of_radius : (units : Units) (e : Ends) (r : ℤ) (a : ArcShape) → radius_format units e r ≡ Ok a → a.start ≡ e.start
start_of_radius units e r a h = start_about (tolerance units) e (radius_centre (tolerance units) e r) a (last_of _ _ a h)

end_about : (t : ℕ) (e : Ends) (r : Result Point2 ArcFault) (a : ArcShape) → (r >>= λ centre. with_equal_radii t (arc_about e centre)) ≡ Ok a → a.end ≡ e.end
end_about t e (Ok centre) a h = end_of_equal t (arc_about e centre) a h
end_about t e (Err fault) a h = cc

pub end_of_radius : (units : Units) (e : Ends) (r : ℤ) (a : ArcShape) → radius_format units e r ≡ Ok a → a.end ≡ e.end
end_of_radius units e r a h = end_about (tolerance units) e (radius_centre (tolerance units) e r) a (last_of _ _ a h)
