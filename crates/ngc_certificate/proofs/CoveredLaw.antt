-- The law: lines by their pieces, arcs by their swept box or by the boxes about their cuts.
use Rattle.std.proofs.Common.{◌≡◌, ℕ, suc, ◌<◌, ap, ap₂, subst, sym, refl, arith, List, [], ◌∷◌, length, map, Bool, true, false, ℤ, pos, negsuc, ◌≤ℤ◌}
use Rattle.std.specs.Prelude.{Any, IsTrue, nat_lt, if◌then◌else◌}
use Rattle.std.proofs.lemmas.Int.{ints}
use Rattle.std.proofs.lemmas.Bool.Decides.{nat_tests}
use Rattle.ngc_fixed_length.specs.declared.points.StepPos.{StepPos}
use Rattle.ngc_fixed_length.specs.declared.points.GridBox.{GridBox}
use Rattle.ngc_fixed_length.specs.declared.points.Point2.{Point2}
use Rattle.ngc_fixed_length.specs.Grid.{grid, greatest_distance}
use Rattle.ngc_fixed_length.specs.LinePath.{point}
use Rattle.ngc_fixed_length.specs.Boxes.{IsIn}
use Rattle.ngc_arc_geometry.specs.Shape.{ArcShape}
use Rattle.ngc_arc_geometry.specs.Radii.{HasEvenRadii}
use Rattle.ngc_arc_geometry.specs.Swept.{swept_box}
use Rattle.ngc_arc_geometry.specs.ArcPath.{IsArcPath}
use Rattle.ngc_arc_geometry.specs.CutArc.{cut_box, cut_boxes, is_large, IsCutChain}
use Rattle.ngc_arc_geometry.proofs.CutChain.{covered_by_cuts}
use Rattle.ngc_commands.specs.declared.movement.Way.TheVariants.{Line, Arc}
use Rattle.ngc_certificate_text.specs.declared.piece.Cut.{Cut}
use Rattle.ngc_certificate_text.specs.declared.piece.Cut.TheVariants.{Part, Place}
use Rattle.ngc_certificate.specs.Chain.{ChainFrom, IsChain, are_several, first_cut, place_of, stretch}
use Rattle.ngc_certificate.specs.DerivedBox.{arc_box, boxes_from, derived_boxes}
use Rattle.ngc_certificate.specs.Covered.{Covered}
use Rattle.ngc_certificate.proofs.CoveredLines.{any_here, covered_line}

-- ---- a cut arc, whose inner radius is at least eight steps

no_truth : IsTrue false → ⊥
no_truth h = cc

cut_chain : (step : ℤ) (a : ArcShape) (begin : Cut) (cuts : List Cut) → ChainFrom step (Arc a) true begin cuts →
    IsCutChain step a (place_of a begin) (map (place_of a) cuts)
cut_chain step a begin [] c = absurd c
cut_chain step a begin (Part t ∷ []) c = absurd (no_truth c)
cut_chain step a begin (Place q ∷ []) c = c
cut_chain step a begin (Part t ∷ next ∷ cuts) c = absurd (no_truth c.0)
cut_chain step a begin (Place q ∷ next ∷ cuts) c = (c.0, cut_chain step a (Place q) (next ∷ cuts) c.1)

cut_box_is : (step : ℤ) (a : ArcShape) (last : Bool) (begin : Cut) (q : Point2) → is_large step a ≡ true →
    arc_box step a (stretch true last begin) q ≡ cut_box step a (place_of a begin) q
cut_box_is step a last begin q large = ap (λ (b : Bool). if b then cut_box step a (place_of a begin) q else swept_box step a) large

pub cut_boxes_are : (step : ℤ) (a : ArcShape) (begin : Cut) (cuts : List Cut) → is_large step a ≡ true →
    boxes_from step (Arc a) true begin cuts ≡ cut_boxes step a (place_of a begin) (map (place_of a) cuts)
cut_boxes_are step a begin [] large = refl
cut_boxes_are step a begin (cut ∷ []) large = ap (λ b. b ∷ []) (cut_box_is step a true begin (place_of a cut) large)
cut_boxes_are step a begin (cut ∷ next ∷ cuts) large =
    ap₂ (λ (b : GridBox) (bs : List GridBox). b ∷ bs) (cut_box_is step a false begin (place_of a cut) large) (cut_boxes_are step a cut (next ∷ cuts) large)

covered_cuts : (step : ℤ) (a : ArcShape) (cuts : List Cut) (path : List StepPos) (k : ℕ) → pos 1 ≤ℤ step → HasEvenRadii a → is_large step a ≡ true →
    ChainFrom step (Arc a) true (first_cut (Arc a)) cuts → IsArcPath step a path → k < length path →
    Any (λ b. IsIn b (point path k)) (boxes_from step (Arc a) true (first_cut (Arc a)) cuts)
covered_cuts step a cuts path k some even large chain way i =
    subst (λ bs. Any (λ b. IsIn b (point path k)) bs) (sym (cut_boxes_are step a (first_cut (Arc a)) cuts large))
    (covered_by_cuts step a (map (place_of a) cuts) path k some even large (cut_chain step a (first_cut (Arc a)) cuts chain) way i)

-- ---- a smaller one

swept_is : (step : ℤ) (a : ArcShape) (last : Bool) (begin : Cut) (q : Point2) → is_large step a ≡ false →
    arc_box step a (stretch true last begin) q ≡ swept_box step a
swept_is step a last begin q small = ap (λ (b : Bool). if b then cut_box step a (place_of a begin) q else swept_box step a) small

covered_small : (step : ℤ) (a : ArcShape) (begin : Cut) (cuts : List Cut) (p : StepPos) → is_large step a ≡ false → ChainFrom step (Arc a) true begin cuts →
    IsIn (swept_box step a) p →
    Any (λ b. IsIn b p) (boxes_from step (Arc a) true begin cuts)
covered_small step a begin [] p small chain h = absurd chain
covered_small step a begin (cut ∷ []) p small chain h =
    any_here (λ b. IsIn b p) (arc_box step a (stretch true true begin) (place_of a cut)) []
    (subst (λ b. IsIn b p) (sym (swept_is step a true begin (place_of a cut) small)) h)
covered_small step a begin (cut ∷ next ∷ cuts) p small chain h =
    any_here (λ b. IsIn b p) (arc_box step a (stretch true false begin) (place_of a cut)) (boxes_from step (Arc a) true cut (next ∷ cuts))
    (subst (λ b. IsIn b p) (sym (swept_is step a false begin (place_of a cut) small)) h)

-- ---- all arcs

several_is : (m : ℕ) → nat_lt 1 (suc (suc m)) ≡ true
several_is m = grind (arith, nat_tests)

by_size : (step : ℤ) (a : ArcShape) (cuts : List Cut) (path : List StepPos) (k : ℕ) (large : Bool) → is_large step a ≡ large → pos 1 ≤ℤ step → HasEvenRadii a →
    ChainFrom step (Arc a) true (first_cut (Arc a)) cuts → IsArcPath step a path → k < length path → IsIn (swept_box step a) (point path k) →
    Any (λ b. IsIn b (point path k)) (boxes_from step (Arc a) true (first_cut (Arc a)) cuts)
by_size step a cuts path k true large some even chain way i h = covered_cuts step a cuts path k some even large chain way i
by_size step a cuts path k false small some even chain way i h = covered_small step a (first_cut (Arc a)) cuts (point path k) small chain h

covered_arc : (step : ℤ) (a : ArcShape) (cuts : List Cut) (path : List StepPos) (k : ℕ) → pos 1 ≤ℤ step → HasEvenRadii a → IsChain step (Arc a) cuts →
    IsArcPath step a path → k < length path →
    IsIn (swept_box step a) (point path k) → Any (λ b. IsIn b (point path k)) (derived_boxes step (Arc a) cuts)
covered_arc step a [] path k some even chain way i h = absurd chain
covered_arc step a (cut ∷ []) path k some even chain way i h = any_here (λ b. IsIn b (point path k)) (swept_box step a) [] h
covered_arc step a (cut ∷ next ∷ cuts) path k some even chain way i h =
    let several = several_is (length cuts) in
    subst (λ s. Any (λ b. IsIn b (point path k)) (boxes_from step (Arc a) s (first_cut (Arc a)) (cut ∷ next ∷ cuts))) (sym several)
    (by_size step a (cut ∷ next ∷ cuts) path k (is_large step a) refl some even
    (subst (λ s. ChainFrom step (Arc a) s (first_cut (Arc a)) (cut ∷ next ∷ cuts)) several chain) way i h)

pub covered : Covered
covered (pos g) (Line b e) cuts path k h even chain way i =
    covered_line g (greatest_distance (grid (pos g) b) (grid (pos g) e)) k b e (are_several cuts) cuts path
    (omega (arith, ints, h)) (omega (arith, i, way.count)) way chain
covered (pos g) (Arc a) cuts path k h even chain way i =
    covered_arc (pos g) a cuts path k h even chain way i (way.1.weak.inside k (omega (arith, i, way.1.weak.count)))
covered (negsuc g) w cuts path k h even chain way i = absurd (omega (arith, ints, h))
