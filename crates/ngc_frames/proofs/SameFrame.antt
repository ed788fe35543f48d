-- A frame is the same as itself.
use Rattle.std.proofs.Common.{◌≡◌, ℤ, List, [], ◌∷◌, true, refl}
use Rattle.std.proofs.lemmas.Bool.Decides.{Decides-int_eq}
use Rattle.std.specs.Ordering.{int_eq}
use Rattle.std.specs.Prelude.{◌==◌, ℕ}
use Rattle.std.proofs.Common.{eq-eqb}
use Rattle.ngc_fixed_length.specs.declared.points.Point3.{Point3}
use Rattle.ngc_fixed_length.specs.declared.units.Units.{Units}
use Rattle.ngc_fixed_length.specs.declared.units.Units.TheVariants.{Millimetres, Inches}
use Rattle.ngc_offsets.specs.Frames.{index}
use Rattle.ngc_frames.specs.Frame.{are_same_points, is_same_frame, is_same_point, is_same_unit}
use Rattle.ngc_frames.specs.declared.frame.Frame.{Frame}

same_number : (x : ℤ) → int_eq x x ≡ true
same_number x = (Decides-int_eq x x).1 refl

same_index : (n : ℕ) → (n == n) ≡ true
same_index n = eq-eqb n n refl

same_point : (p : Point3) → is_same_point p p ≡ true
same_point p = rw (same_number p.x, same_number p.y, same_number p.z) refl

same_points : (ps : List Point3) → are_same_points ps ps ≡ true
same_points [] = refl
same_points (p ∷ ps) = rw (same_point p, same_points ps) refl

same_unit : (u : Units) → is_same_unit u u ≡ true
same_unit Millimetres = refl
same_unit Inches = refl

pub same_frame : (f : Frame) → is_same_frame f f ≡ true
same_frame f =
    rw (same_index (index f.frames.active), same_points f.frames.origins, same_point f.frames.axis_offset, same_number f.frames.length, same_unit f.unit) refl
