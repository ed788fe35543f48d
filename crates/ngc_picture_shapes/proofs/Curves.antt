-- A curve is halved.
use Rattle.std.proofs.Common.{◌≡◌, ◌≢◌, ℕ, zero, suc, ◌-◌, List, ◌++◌, map, arith, sym, refl}
use Rattle.std.proofs.lemmas.List.{map-append}
use Rattle.ngc_fixed_length.specs.declared.points.Point3.{Point3}
use Rattle.ngc_arc_geometry.specs.Radii.{outer_radius}
use Rattle.ngc_arc_geometry.specs.Shape.{ArcShape}
use Rattle.ngc_picture_shapes.specs.Helices.{halfway, middle, curve, halvings, helix_points}
use Rattle.ngc_picture_shapes.specs.Strokes.{line_to}
use Rattle.ngc_picture_shapes.specs.declared.eye.Eye.{Eye}
use Rattle.ngc_picture_shapes.specs.declared.shape.Shape.{Shape}

-- what is drawn of it
abbrev pub lines : Eye → ℕ → ArcShape → Point3 → Point3 → List Shape
lines eye n arc p q = map (line_to eye) (curve n arc p q)

one_less : (n : ℕ) → suc n - 1 ≡ n
one_less n = omega arith

pub halved : (eye : Eye) (n : ℕ) (arc : ArcShape) (p m q : Point3) → n ≢ 0 → m ≡ halfway arc p q
    → lines eye (n - 1) arc p m ++ lines eye (n - 1) arc m q ≡ lines eye n arc p q
halved eye zero arc p m q some is = absurd (some refl)
halved eye (suc n) arc p m q some is =
    rw (one_less n, is) (sym (map-append (line_to eye) (curve n arc p (halfway arc p q)) (curve n arc (halfway arc p q) q)))

pub both_halves : (eye : Eye) (arc : ArcShape) (n : ℕ) (p m q : Point3) → n ≡ halvings (outer_radius arc) → p ≡ arc.start → m ≡ middle arc → q ≡ arc.end
    → lines eye n arc p m ++ lines eye n arc m q ≡ map (line_to eye) (helix_points arc)
both_halves eye arc n p m q is_n is_p is_m is_q =
    rw (is_n, is_p, is_m, is_q)
    (sym (map-append (line_to eye) (curve (halvings (outer_radius arc)) arc arc.start (middle arc))
    (curve (halvings (outer_radius arc)) arc (middle arc) arc.end)))
