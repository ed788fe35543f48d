-- The boxes of an arc's pieces, with one more piece each time.
use Rattle.std.proofs.Common.{◌≡◌, ℕ, ap, ap₂, subst, sym, refl, ◌∙◌, List, [], ◌∷◌, ◌++◌, length, map, Bool, true, ℤ}
use Rattle.std.specs.Prelude.{nat_lt}
use Rattle.std.proofs.lemmas.List.{map-append, length-map}
use Rattle.ngc_fixed_length.specs.declared.points.Point2.{Point2}
use Rattle.ngc_fixed_length.specs.declared.points.GridBox.{GridBox}
use Rattle.ngc_arc_geometry.specs.Shape.{ArcShape, start_of}
use Rattle.ngc_arc_geometry.specs.CutArc.{cut_box, cut_boxes, is_large}
use Rattle.ngc_arc_geometry.specs.GridArcs.{ArcOnGrid}
use Rattle.ngc_commands.specs.declared.movement.Way.TheVariants.{Arc}
use Rattle.ngc_certificate_text.specs.declared.piece.Piece.{Piece}
use Rattle.ngc_certificate.specs.Chain.{first_cut, place_of, are_several}
use Rattle.ngc_certificate.specs.DerivedBox.{boxes_from, HaveDerivedBoxes}
use Rattle.ngc_certificate.proofs.CoveredLaw.{cut_boxes_are}

-- the ends of pieces
abbrev pub ends_of : ArcShape → List Piece → List Point2
ends_of a pieces = map (λ (p : Piece). place_of a p.end) pieces

abbrev pub bounds_of : List Piece → List GridBox
bounds_of pieces = map (λ (p : Piece). p.bounds) pieces

-- the end of the last of them, or the begin of the first one
abbrev pub reached : Point2 → List Point2 → Point2
reached p [] = p
reached p (q ∷ qs) = reached q qs

-- pieces from an arc's start to a point, each in the box about its two cuts
pub record AreCutTo (step : ℤ) (a : ArcShape) (pieces : List Piece) (point : Point2) : Type 0 where
  pub boxes : bounds_of pieces ≡ cut_boxes step a (start_of a) (ends_of a pieces)
  pub end : point ≡ reached (start_of a) (ends_of a pieces)

boxes_more : (step : ℤ) (a : ArcShape) (p q : Point2) (qs : List Point2) →
    cut_boxes step a p (qs ++ (q ∷ [])) ≡ cut_boxes step a p qs ++ (cut_box step a (reached p qs) q ∷ [])
boxes_more step a p q [] = refl
boxes_more step a p q (r ∷ qs) = ap (λ (bs : List GridBox). cut_box step a p r ∷ bs) (boxes_more step a r q qs)

reached_more : (p q : Point2) (qs : List Point2) → reached p (qs ++ (q ∷ [])) ≡ q
reached_more p q [] = refl
reached_more p q (r ∷ qs) = reached_more r q qs

one_more : (step : ℤ) (a : ArcShape) (pieces : List Piece) (point : Point2) (p : Piece) → AreCutTo step a pieces point →
    p.bounds ≡ cut_box step a point (place_of a p.end)
    → AreCutTo step a (pieces ++ (p ∷ [])) (place_of a p.end)
one_more step a pieces point p cut box =
    let q = place_of a p.end in
    let ends : ends_of a (pieces ++ (p ∷ [])) ≡ ends_of a pieces ++ (q ∷ []) = map-append (λ (x : Piece). place_of a x.end) pieces (p ∷ []) in
    let last : p.bounds ≡ cut_box step a (reached (start_of a) (ends_of a pieces)) q = box ∙ ap (λ (from : Point2). cut_box step a from q) cut.end in
    record {
      boxes = map-append (λ (x : Piece). x.bounds) pieces (p ∷ [])
          ∙ ap₂ (λ (bs : List GridBox) (b : GridBox). bs ++ (b ∷ [])) cut.boxes last
          ∙ sym (boxes_more step a (start_of a) q (ends_of a pieces)) ∙ ap (cut_boxes step a (start_of a)) (sym ends);
      end = sym (ap (reached (start_of a)) ends ∙ reached_more (start_of a) q (ends_of a pieces));
    }

-- one more piece of an arc on a machine's grid
pub piece_cut : (step : ℤ) (a : ArcShape) (g : ArcOnGrid) (pieces more : List Piece) (point next : Point2) (p : Piece) → AreCutTo step a pieces point →
    g ≡ record { arc = a; step = step } → p.bounds ≡ cut_box g.step g.arc point (place_of g.arc p.end)
    → more ≡ pieces ++ (p ∷ []) → next ≡ place_of a p.end → AreCutTo step a more next
piece_cut step a g pieces more point next p cut on_grid bounds is to =
    let here : p.bounds ≡ cut_box step a point (place_of a p.end) =
    bounds ∙ ap (λ (x : ArcOnGrid). cut_box x.step x.arc point (place_of x.arc p.end)) on_grid in
    subst (λ (ps : List Piece). AreCutTo step a ps next) (sym is)
    (subst (λ (q : Point2). AreCutTo step a (pieces ++ (p ∷ [])) q) (sym to) (one_more step a pieces point p cut here))

ends_are : (a : ArcShape) (pieces : List Piece) → map (place_of a) (map (λ (p : Piece). p.end) pieces) ≡ ends_of a pieces
ends_are a [] = refl
ends_are a (p ∷ pieces) = ap (λ (qs : List Point2). place_of a p.end ∷ qs) (ends_are a pieces)

several_ends : (pieces : List Piece) → nat_lt 1 (length pieces) ≡ true → are_several (map (λ (p : Piece). p.end) pieces) ≡ true
several_ends pieces h = ap (nat_lt 1) (length-map pieces (λ (p : Piece). p.end)) ∙ h

-- several pieces of a large arc
pub boxes_derived : (step : ℤ) (a : ArcShape) (g : ArcOnGrid) (pieces : List Piece) (point : Point2) (n : ℕ) → AreCutTo step a pieces point →
    g ≡ record { arc = a; step = step } → is_large g.step g.arc ≡ true
    → n ≡ length pieces → nat_lt 1 n ≡ true → HaveDerivedBoxes step (Arc a) pieces
boxes_derived step a g pieces point n cut on_grid large count several =
    let cuts = map (λ (p : Piece). p.end) pieces in
    let large_here : is_large step a ≡ true = ap (λ (x : ArcOnGrid). is_large x.step x.arc) (sym on_grid) ∙ large in
    cut.boxes ∙ ap (cut_boxes step a (start_of a)) (sym (ends_are a pieces)) ∙ sym (cut_boxes_are step a (first_cut (Arc a)) cuts large_here)
    ∙ ap (λ (s : Bool). boxes_from step (Arc a) s (first_cut (Arc a)) cuts) (sym (several_ends pieces (ap (nat_lt 1) (sym count) ∙ several)))
