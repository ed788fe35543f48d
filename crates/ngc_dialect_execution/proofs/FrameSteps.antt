-- Frames that are the same make the same changes.
use Rattle.std.proofs.Common.{◌≡◌, ℕ, ℤ, List, [], ◌∷◌, Bool, true, false, refl, ap, ◌∙◌, eqb-true}
use Rattle.std.specs.Prelude.{◌==◌, ◌&&◌, if◌then◌else◌}
use Rattle.std.proofs.lemmas.Bool.Decides.{Decides-int_eq}
use Rattle.std.specs.Ordering.{int_eq}
use Rattle.ngc_fixed_length.specs.declared.points.Point3.{Point3}
use Rattle.ngc_fixed_length.specs.declared.units.Units.{Units}
use Rattle.ngc_fixed_length.specs.declared.units.Units.TheVariants.{Millimetres, Inches}
use Rattle.ngc_offsets.specs.Frames.{index}
use Rattle.ngc_frames.specs.Changes.{change_at}
use Rattle.ngc_frames.specs.Frame.{are_same_points, is_same_frame, is_same_point, is_same_unit}
use Rattle.ngc_frames.specs.declared.frame.Frame.{Frame}
use Rattle.ngc_frames.proofs.SameFrame.{same_frame}

left : (a b : Bool) → (a && b) ≡ true → a ≡ true
left true b e = refl
left false b e = absurd (cc e)

right : (a b : Bool) → (a && b) ≡ true → b ≡ true
right true b e = e
right false b e = absurd (cc e)

same_number : (x y : ℤ) → int_eq x y ≡ true → x ≡ y
same_number x y e = (Decides-int_eq x y).0 e

point_test : (p q r : Point3) → is_same_point p q ≡ true → is_same_point p r ≡ is_same_point q r
point_test p q r e =
    let rest : (int_eq p.y q.y && int_eq p.z q.z) ≡ true = right (int_eq p.x q.x) _ e in
    rw (
      same_number p.x q.x (left _ (int_eq p.y q.y && int_eq p.z q.z) e),
      same_number p.y q.y (left _ (int_eq p.z q.z) rest),
      same_number p.z q.z (right (int_eq p.y q.y) _ rest),
    ) refl

points_test : (ps qs rs : List Point3) → are_same_points ps qs ≡ true → are_same_points ps rs ≡ are_same_points qs rs
points_test [] [] rs e = refl
points_test [] (q ∷ qs) rs e = absurd (cc e)
points_test (p ∷ ps) [] rs e = absurd (cc e)
points_test (p ∷ ps) (q ∷ qs) [] e = refl
points_test (p ∷ ps) (q ∷ qs) (r ∷ rs) e =
    rw (point_test p q r (left _ (are_same_points ps qs) e), points_test ps qs rs (right (is_same_point p q) _ e)) refl

unit_test : (u v w : Units) → is_same_unit u v ≡ true → is_same_unit u w ≡ is_same_unit v w
unit_test Millimetres Millimetres w e = refl
unit_test Inches Inches w e = refl
unit_test Millimetres Inches w e = absurd (cc e)
unit_test Inches Millimetres w e = absurd (cc e)

same_test : (a b c : Frame) → is_same_frame a b ≡ true → is_same_frame a c ≡ is_same_frame b c
same_test a b c e =
    let one = right (index a.frames.active == index b.frames.active) _ e in
    let two = right (are_same_points a.frames.origins b.frames.origins) _ one in
    let three = right (is_same_point a.frames.axis_offset b.frames.axis_offset) _ two in
    rw (
      eqb-true (index a.frames.active) (index b.frames.active) (left _ _ e),
      points_test a.frames.origins b.frames.origins c.frames.origins (left _ _ one),
      point_test a.frames.axis_offset b.frames.axis_offset c.frames.axis_offset (left _ _ two),
      same_number a.frames.length b.frames.length (left _ _ three),
      unit_test a.unit b.unit c.unit (right (int_eq a.frames.length b.frames.length) _ three),
    ) refl

pub change_test : (line count : ℕ) (a b c : Frame) → is_same_frame a b ≡ true → change_at line count a c ≡ change_at line count b c
change_test line count a b c e =
    ap (λ (same : Bool). if same then [] else record { line = line; command = count; frame = c } ∷ []) (same_test a b c e)

-- a frame is the same as itself, in the words of a call
pub same_as : (f now : Frame) → f ≡ now → is_same_frame f now ≡ true
same_as f now e = ap (λ (g : Frame). is_same_frame g now) e ∙ same_frame now
