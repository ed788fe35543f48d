-- What is lowered along an arc's chords is what the arc cuts.
use Rattle.std.proofs.Common.{◌≡◌, ℕ, zero, suc, ◌+◌, ◌*◌, ◌-◌, ◌≤◌, ℤ, pos, ◌+ℤ◌, ◌-ℤ◌, ◌*ℤ◌, ◌≤ℤ◌, ◌<ℤ◌, inl, inr, refl, sym, subst, arith, List, [], ◌∷◌}
use Rattle.std.proofs.lemmas.Int.{by_lt_z}
use Rattle.ngc_fixed_length.specs.declared.modes.Plane.TheVariants.{XY}
use Rattle.ngc_fixed_length.specs.declared.points.Point2.{Point2}
use Rattle.ngc_fixed_length.specs.declared.points.Point3.{Point3}
use Rattle.ngc_arc_geometry.specs.Shape.{ArcShape}
use Rattle.ngc_cells.specs.Stretches.{ahead, middle, square, IsAround, IsNear}
use Rattle.ngc_cells.specs.Grids.{IsGrid, centre}
use Rattle.ngc_cells.proofs.Ring.{V, S, P, ring}
use Rattle.ngc_cells.proofs.Vectors.{L}
use Rattle.ngc_stock.specs.declared.cylinder.Cylinder.{Cylinder}
use Rattle.ngc_stock.specs.declared.stock.Stock.{Stock}
use Rattle.ngc_stock.specs.Stocks.{kappa, radius, flat, IsInCell, IsInStock}
use Rattle.ngc_stock.specs.Arcs.{upper_tip, IsBeside, IsCutByArc, IsChord, between, chord}
use Rattle.ngc_stock.specs.Walk.{AreChordsCut, IsArcCut, AreArcsCut, IsArcCutByAny}
use Rattle.ngc_stock.proofs.Distances.{cell_most, moved}
use Rattle.ngc_stock.proofs.Bounds.{AreBounds, lowered, feed_keeps}

from_centre : (n k c d e q : ℤ) → (n *ℤ (q -ℤ (c +ℤ d))) -ℤ (k *ℤ ((c +ℤ e) -ℤ (c +ℤ d))) ≡ (n *ℤ (q -ℤ c)) -ℤ ((n *ℤ d) +ℤ (k *ℤ (e -ℤ d)))
from_centre n k c d e q = ring (n ∷ k ∷ c ∷ d ∷ e ∷ q ∷ [])
    (L (P (V 0) (L (V 5) (S (V 2) (V 3)))) (P (V 1) (L (S (V 2) (V 4)) (S (V 2) (V 3)))))
    (L (P (V 0) (L (V 5) (V 2))) (S (P (V 0) (V 3)) (P (V 1) (L (V 4) (V 3))))) refl

-- what is around a point of a chord is beside it, seen from the centre
beside : (a : ArcShape) (n k r : ℕ) (d e : Point2) (q : Point3) → IsAround n k (chord a d e).start (chord a d e).end r (flat q) → IsBeside a n (between n k d e) r q
beside a n k r d e q h =
    let x = from_centre (pos n) (pos k) a.centre.u d.u e.u q.x in
    let y = from_centre (pos n) (pos k) a.centre.v d.v e.v q.y in
    subst (λ (z : ℤ). (square z +ℤ square ((pos n *ℤ (q.y -ℤ a.centre.v)) -ℤ middle n k d.v e.v)) ≤ℤ pos ((n * r) * (n * r))) x
    (subst (λ (z : ℤ). (square (ahead n k (a.centre.u +ℤ d.u) (a.centre.u +ℤ e.u) q.x) +ℤ square z) ≤ℤ pos ((n * r) * (n * r))) y h)

chord_below : (s : Stock) (t : Cylinder) (a : ArcShape) (room : ℕ) (d e : Point2) (grid : IsGrid s.grid) → a.plane ≡ XY → kappa s.grid + room ≤ radius t → IsChord a room d e →
    (k : ℕ) (q : Point3) → IsNear (chord a d e) (radius t - (kappa s.grid + room)) (centre s.grid k) → ¬ (IsCutByArc t a q) → IsInCell s.grid k q →
    q.z <ℤ upper_tip t a
chord_below s t a room d e grid plane thick is_chord k q near uncut cell =
    let m = near.0 in let j = near.1 in let on = near.2 in
    let c = centre s.grid k in
    let p = (chord a d e).start in let o = (chord a d e).end in
    let wide = moved m j (radius t - (kappa s.grid + room)) (kappa s.grid) p o c (flat q) near.3 (cell_most s.grid k q grid cell) in
    let r : (radius t - (kappa s.grid + room)) + kappa s.grid ≡ radius t - room = omega (arith, thick) in
    let all : IsAround m j p o (radius t - room) (flat q) = subst (λ (x : ℕ). IsAround m j p o x (flat q)) r wide in
    by_lt_z q.z (upper_tip t a)
    (λ yes. yes)
    (λ no. absurd (uncut (inl (record {
      plane = plane;
      room = room;
      n = m;
      d = between m j d e;
      some = on.some;
      fits = omega (arith, thick);
      by_arc = is_chord m j on.some (omega (arith, on.last));
      around = beside a m j (radius t - room) d e q all;
      low = no;
    }))))

chords_keep : (s : Stock) (t : Cylinder) (a : ArcShape) (grid : IsGrid s.grid) (Left : Point3 → Type 0) →
    ((q : Point3) → Left q → IsInStock s q) → ((q : Point3) → Left q → ¬ (IsCutByArc t a q)) →
    (n : ℕ) (old new : List ℕ) → AreChordsCut s t a n old new → AreBounds s old Left → AreBounds s new Left
chords_keep s t a grid Left stock uncut zero old new e bounds = subst (λ (l : List ℕ). AreBounds s l Left) (sym e) bounds
chords_keep s t a grid Left stock uncut (suc n) old new h bounds =
    lowered s (chord a h.2 h.3) (radius t - (kappa s.grid + h.1)) (upper_tip t a) h.0 new Left stock
    (λ k q near left cell. chord_below s t a h.1 h.2 h.3 grid h.5 h.6 h.7 k q near (uncut q left) cell)
    h.8
    (chords_keep s t a grid Left stock uncut n old h.0 h.4 bounds)

pub arc_keeps : (s : Stock) (t : Cylinder) (a : ArcShape) (grid : IsGrid s.grid) (Left : Point3 → Type 0) →
    ((q : Point3) → Left q → IsInStock s q) → ((q : Point3) → Left q → ¬ (IsCutByArc t a q)) →
    (old new : List ℕ) → IsArcCut s t a old new → AreBounds s old Left → AreBounds s new Left
arc_keeps s t a grid Left stock uncut old new cut bounds =
    feed_keeps s t a.end a.end grid Left stock (λ q left by. uncut q left (inr by)) cut.middle new cut.end
    (chords_keep s t a grid Left stock uncut cut.count old cut.middle cut.chords bounds)

-- with each disc in order
pub arcs_keep : (s : Stock) (ds : List Cylinder) (a : ArcShape) (grid : IsGrid s.grid) (Left : Point3 → Type 0) →
    ((q : Point3) → Left q → IsInStock s q) → ((q : Point3) → Left q → ¬ (IsArcCutByAny ds a q)) →
    (old new : List ℕ) → AreArcsCut s ds a old new → AreBounds s old Left → AreBounds s new Left
arcs_keep s [] a grid Left stock uncut old new e bounds = subst (λ (l : List ℕ). AreBounds s l Left) (sym e) bounds
arcs_keep s (d ∷ ds) a grid Left stock uncut old new cut bounds =
    arcs_keep s ds a grid Left stock (λ q left by. uncut q left (inr by)) cut.0 new cut.2
    (arc_keeps s d a grid Left stock (λ q left by. uncut q left (inl by)) old cut.0 cut.1 bounds)
