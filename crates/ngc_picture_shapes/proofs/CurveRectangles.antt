-- The rectangle that holds a curve, which is halved.
use Rattle.std.proofs.Common.{◌≡◌, ◌≢◌, ℕ, zero, suc, ◌-◌, List, [], ◌∷◌, ◌++◌, map, arith, ap, sym, refl, ◌∙◌}
use Rattle.std.proofs.lemmas.List.{map-append}
use Rattle.ngc_fixed_length.specs.declared.points.Point3.{Point3}
use Rattle.ngc_arc_geometry.specs.Radii.{outer_radius}
use Rattle.ngc_arc_geometry.specs.Shape.{ArcShape}
use Rattle.ngc_picture_shapes.specs.Helices.{halfway, middle, curve, halvings, helix_points}
use Rattle.ngc_picture_shapes.specs.Sheets.{holding_all}
use Rattle.ngc_picture_shapes.specs.Views.{holding, tip_spot}
use Rattle.ngc_picture_shapes.specs.declared.eye.Eye.{Eye}
use Rattle.ngc_picture_shapes.specs.declared.spot.Rectangle.{Rectangle}
use Rattle.ngc_picture_shapes.specs.declared.spot.Spot.{Spot}

one_less : (n : ℕ) → suc n - 1 ≡ n
one_less n = omega arith

holding_append : (r : Rectangle) (ps qs : List Spot) → holding_all (holding_all r ps) qs ≡ holding_all r (ps ++ qs)
holding_append r [] qs = refl
holding_append r (p ∷ ps) qs = holding_append (holding r p) ps qs

-- with a curve
abbrev pub held : Eye → Rectangle → ℕ → ArcShape → Point3 → Point3 → Rectangle
held eye r n arc p q = holding_all r (map (tip_spot eye) (curve n arc p q))

joined : (eye : Eye) (r : Rectangle) (ps qs : List Point3) →
    holding_all (holding_all r (map (tip_spot eye) ps)) (map (tip_spot eye) qs) ≡ holding_all r (map (tip_spot eye) (ps ++ qs))
joined eye r ps qs =
    holding_append r (map (tip_spot eye) ps) (map (tip_spot eye) qs) ∙ ap (holding_all r) (sym (map-append (tip_spot eye) ps qs))

pub held_halved : (eye : Eye) (r : Rectangle) (n : ℕ) (arc : ArcShape) (p m q : Point3) → n ≢ 0 → m ≡ halfway arc p q
    → held eye (held eye r (n - 1) arc p m) (n - 1) arc m q ≡ held eye r n arc p q
held_halved eye r zero arc p m q some is = absurd (some refl)
held_halved eye r (suc n) arc p m q some is =
    rw (one_less n, is) (joined eye r (curve n arc p (halfway arc p q)) (curve n arc (halfway arc p q) q))

pub held_both : (eye : Eye) (r : Rectangle) (arc : ArcShape) (n : ℕ) (p m q : Point3) → n ≡ halvings (outer_radius arc) → p ≡ arc.start → m ≡ middle arc
    → q ≡ arc.end → held eye (held eye r n arc p m) n arc m q ≡ holding_all r (map (tip_spot eye) (helix_points arc))
held_both eye r arc n p m q is_n is_p is_m is_q =
    rw (is_n, is_p, is_m, is_q)
    (joined eye r (curve (halvings (outer_radius arc)) arc arc.start (middle arc)) (curve (halvings (outer_radius arc)) arc (middle arc) arc.end))
