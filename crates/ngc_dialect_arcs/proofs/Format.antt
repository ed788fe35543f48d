-- Which arcs our own language takes, in its two formats.
use Rattle.std.proofs.Common.{◌≡◌, ℕ, ◌+◌, ◌-◌, ◌*◌, ◌≤◌, ◌<◌, min, max, ℤ, pos, ◌+ℤ◌, ◌-ℤ◌, ◌*ℤ◌, unsigned_abs, Bool, true, false, Result, Ok, Err, inl, inr, refl, sym, ap, ◌∙◌, subst, arith}
use Rattle.std.specs.Prelude.{◌&&◌, ◌||◌, ◌==◌, not, nat_le, nat_lt, is_none, if◌then◌else◌}
use Rattle.std.proofs.lemmas.Bool.{cases_lt}
use Rattle.std.proofs.lemmas.Bool.Decides.{nat_tests}
use Rattle.std.proofs.lemmas.Int.{ints}
use Rattle.ngc_fixed_length.specs.Places.{from, shifted}
use Rattle.ngc_fixed_length.specs.declared.points.Point2.{Point2}
use Rattle.ngc_fixed_length.specs.declared.units.Units.{Units}
use Rattle.ngc_arc_geometry.specs.Centre.{arc_about, start_in, end_in, offset_centre, centre_format, radius_centre, radius_format}
use Rattle.ngc_arc_geometry.specs.Faults.{◌>>=◌, ◌>>◌, refuse_if}
use Rattle.ngc_arc_geometry.specs.Radii.{SQUARE_LIMIT, lo, hi, squared_distance, roots_within, with_equal_radii}
use Rattle.ngc_arc_geometry.specs.Shape.{ArcShape}
use Rattle.ngc_arc_geometry.specs.Tolerance.{tolerance}
use Rattle.ngc_arc_geometry.specs.declared.fault.ArcFault.{ArcFault}
use Rattle.ngc_arc_geometry.specs.declared.given.Ends.{Ends}
use Rattle.ngc_arc_geometry.specs.declared.given.Offsets.{Offsets}
use Rattle.ngc_dialect_arcs.specs.Centre.{start_square, end_square}

-- ---- the lesser and the greater of two squares

swapped : (t s e : ℕ) → roots_within t s e ≡ true → roots_within t e s ≡ true
swapped t s e h =
    let sum : s + e ≡ e + s = omega arith in
    let product : 4 * s * e ≡ 4 * e * s = omega arith in
    subst (λ x. (nat_le x (t * t) || nat_le ((x - t * t) * (x - t * t)) (4 * e * s)) ≡ true) sum
    (subst (λ y. (nat_le (s + e) (t * t) || nat_le ((s + e - t * t) * (s + e - t * t)) y) ≡ true) product h)

pub in_order : (t s e : ℕ) → roots_within t s e ≡ true → roots_within t (min s e) (max s e) ≡ true
in_order t s e h =
    elim (cases_lt e s) [
      | inl more ↦ (let l : min s e ≡ e = omega arith in let g : max s e ≡ s = omega arith in rw (l, g) (swapped t s e h))
      | inr less ↦ (let l : min s e ≡ s = omega arith in let g : max s e ≡ e = omega arith in rw (l, g) h)
    ]

pub from_order : (t s e : ℕ) → roots_within t (min s e) (max s e) ≡ true → roots_within t s e ≡ true
from_order t s e h =
    elim (cases_lt e s) [
      | inl more ↦ (let l : min s e ≡ e = omega arith in let g : max s e ≡ s = omega arith in swapped t e s (rw (l, g) at h))
      | inr less ↦ (let l : min s e ≡ s = omega arith in let g : max s e ≡ e = omega arith in rw (l, g) at h)
    ]

-- ---- R

last_of : {A B : Type 0} (x : Result A ArcFault) (r : Result B ArcFault) (a : B) → (x >> r) ≡ Ok a → r ≡ Ok a
last_of (Ok u) r a h = h
last_of (Err e) r a h = absurd (cc)

first_of : {B : Type 0} (x : Result (Unit {0}) ArcFault) (r : Result B ArcFault) (a : B) → (x >> r) ≡ Ok a → x ≡ Ok tt
first_of (Ok tt) r a h = refl
first_of (Err e) r a h = absurd (cc)

passed : (b : Bool) (e : ArcFault) → refuse_if (not b) e ≡ Ok tt → b ≡ true
passed true e h = refl
passed false e h = absurd (cc)

same_arc : (a b : ArcShape) → (let x : Result ArcShape ArcFault = Ok a in let y : Result ArcShape ArcFault = Ok b in x ≡ y) → a ≡ b
same_arc a b h = cc

-- an arc that is found by R
pub record IsFound (t : ℕ) (e : Ends) (a : ArcShape) : Type 0 where
  pub is : arc_about e a.centre ≡ a
  pub alike : roots_within t (lo a) (hi a) ≡ true

equal : (t : ℕ) (s a : ArcShape) → with_equal_radii t s ≡ Ok a → (s ≡ a) × (roots_within t (lo s) (hi s) ≡ true)
equal t s a h =
    (same_arc s a (last_of _ (Ok s) a h), passed (roots_within t (lo s) (hi s)) _ (last_of _ _ tt (first_of _ (Ok s) a h)))

found_at : (t : ℕ) (e : Ends) (r : Result Point2 ArcFault) (a : ArcShape) → (r >>= λ centre. with_equal_radii t (arc_about e centre)) ≡ Ok a → IsFound t e a
found_at t e (Ok centre) a h =
    let s = equal t (arc_about e centre) a h in
    subst (λ x. IsFound t e x) s.0 (record { is = refl; alike = s.1 })
found_at t e (Err fault) a h = absurd (cc)

pub found : (units : Units) (e : Ends) (r : ℤ) (a : ArcShape) → radius_format units e r ≡ Ok a → IsFound (tolerance units) e a
found units e r a h = found_at (tolerance units) e (radius_centre (tolerance units) e r) a (last_of _ _ a h)

-- ---- offsets

squares : (a b c d : ℤ) → a ≡ b → c ≡ d → unsigned_abs ((a *ℤ a) +ℤ (c *ℤ c)) ≡ unsigned_abs ((b *ℤ b) +ℤ (d *ℤ d))
squares a b c d u v = rw (u, v) refl

pub at_start : (s c : Point2) → squared_distance (shifted s c) s ≡ start_square c
at_start s c =
    let u : s.u -ℤ (s.u +ℤ c.u) ≡ pos 0 -ℤ c.u = omega (arith, ints) in
    let v : s.v -ℤ (s.v +ℤ c.v) ≡ pos 0 -ℤ c.v = omega (arith, ints) in
    squares _ _ _ _ u v

pub at_end : (s f c : Point2) → squared_distance (shifted s c) f ≡ end_square (from s f) c
at_end s f c =
    let u : f.u -ℤ (s.u +ℤ c.u) ≡ (f.u -ℤ s.u) -ℤ c.u = omega (arith, ints) in
    let v : f.v -ℤ (s.v +ℤ c.v) ≡ (f.v -ℤ s.v) -ℤ c.v = omega (arith, ints) in
    squares _ _ _ _ u v

accepting : (a b c d r : Bool) (v w x y z : ArcFault) (s : ArcShape) → a ≡ false → b ≡ false → c ≡ false → d ≡ false → r ≡ true →
    (((refuse_if a v >> refuse_if b w) >> refuse_if c x) >> ((refuse_if d y >> refuse_if (not r) z) >> Ok s)) ≡ Ok s
accepting a b c d r v w x y z s ha hb hc hd hr = rw (ha, hb, hc, hd, hr) refl

pub accepted : (units : Units) (e : Ends) (o : Offsets) → e.has_axis_word ≡ true → (is_none o.u && is_none o.v) ≡ false →
    hi (arc_about e (offset_centre e o)) ≤ SQUARE_LIMIT → 0 < lo (arc_about e (offset_centre e o)) →
    roots_within (tolerance units) (lo (arc_about e (offset_centre e o))) (hi (arc_about e (offset_centre e o))) ≡ true →
    centre_format units e o ≡ Ok (arc_about e (offset_centre e o))
accepted units e o word some limit least alike =
    let s : ArcShape = arc_about e (offset_centre e o) in
    accepting (not e.has_axis_word) (is_none o.u && is_none o.v) (nat_lt SQUARE_LIMIT (hi s)) (lo s == 0) (roots_within (tolerance units) (lo s) (hi s))
    _ _ _ _ _ s (ap not word) some (grind (arith, nat_tests)) (grind (arith, nat_tests)) alike
