-- The boxes of pieces that share a cut arc.
use Rattle.std.proofs.Common.{◌≡◌, ℤ, Bool, true, false, subst, refl}
use Rattle.ngc_fixed_length.specs.declared.points.Point2.{Point2}
use Rattle.ngc_arc_geometry.specs.Shape.{ArcShape}
use Rattle.ngc_arc_geometry.specs.CutArc.{cut_box, is_large}
use Rattle.ngc_arc_geometry.specs.GridArcs.{ArcOnGrid}
use Rattle.ngc_commands.specs.declared.movement.Way.TheVariants.{Arc}
use Rattle.ngc_certificate.specs.declared.shared.Shared.TheVariants.{Cut}
use Rattle.ngc_certificate.specs.declared.stretch.Stretch.{Stretch}
use Rattle.ngc_certificate.specs.Chain.{place_of}
use Rattle.ngc_certificate.specs.DerivedBox.{arc_box}
use Rattle.ngc_certificate.specs.Shared.{shared_of}

is_cut : (step : ℤ) (a : ArcShape) (several : Bool) (g : ArcOnGrid) → Cut g ≡ shared_of step (Arc a) several →
    (several ≡ true) × (g ≡ record { arc = a; step = step })
is_cut step a true g e = (refl, cc)
is_cut step a false g e = absurd cc

-- the box of a piece of a large arc that is cut
pub box_is : (step : ℤ) (a : ArcShape) (s : Stretch) (q : Point2) (g : ArcOnGrid) → Cut g ≡ shared_of step (Arc a) s.several → is_large g.step g.arc ≡ true →
    cut_box g.step g.arc (place_of a s.begin) q ≡ arc_box step a s q
box_is step a s q g e large =
    let k = is_cut step a s.several g e in
    let l : is_large step a ≡ true = subst (λ (x : ArcOnGrid). is_large x.step x.arc ≡ true) k.1 large in
    rw (k.0, l, k.1) refl
