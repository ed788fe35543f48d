-- The grid points of a cut arc's ends lie in the boxes of its first and last piece.
use Rattle.std.proofs.Common.{ℤ, ◌+ℤ◌, ◌-ℤ◌, ◌≤ℤ◌, arith}
use Rattle.std.specs.Int.{int_min, int_max}
use Rattle.std.proofs.lemmas.Int.{ints, clamps}
use Rattle.ngc_fixed_length.specs.declared.points.Point2.{Point2}
use Rattle.ngc_fixed_length.specs.Boxes.{IsIn, grid_above, grid_below}
use Rattle.ngc_fixed_length.specs.Grid.{grid}
use Rattle.ngc_fixed_length.specs.Length.{IsStep}
use Rattle.ngc_fixed_length.specs.Rounding.{nearest}
use Rattle.ngc_arc_geometry.specs.Shape.{ArcShape, start_of, end_of}
use Rattle.ngc_arc_geometry.specs.Swept.{margin}
use Rattle.ngc_arc_geometry.specs.CutArc.{cut_box}
use Rattle.ngc_arc_geometry.proofs.SweptEnds.{above_inside, inside_below, place_between}

low_of_first : (s : ℤ) (a : ArcShape) (p q : ℤ) → IsStep s → grid_above s (int_min p q -ℤ margin s a) ≤ℤ nearest p s
low_of_first s a p q step = above_inside s (int_min p q -ℤ margin s a) p step (omega (arith, ints, clamps))

low_of_second : (s : ℤ) (a : ArcShape) (p q : ℤ) → IsStep s → grid_above s (int_min p q -ℤ margin s a) ≤ℤ nearest q s
low_of_second s a p q step = above_inside s (int_min p q -ℤ margin s a) q step (omega (arith, ints, clamps))

high_of_first : (s : ℤ) (a : ArcShape) (p q : ℤ) → IsStep s → nearest p s ≤ℤ grid_below s (int_max p q +ℤ margin s a)
high_of_first s a p q step = inside_below s p (int_max p q +ℤ margin s a) step (omega (arith, ints, clamps))

high_of_second : (s : ℤ) (a : ArcShape) (p q : ℤ) → IsStep s → nearest q s ≤ℤ grid_below s (int_max p q +ℤ margin s a)
high_of_second s a p q step = inside_below s q (int_max p q +ℤ margin s a) step (omega (arith, ints, clamps))

pub start_in_cut : (s : ℤ) (a : ArcShape) (q : Point2) → IsStep s → IsIn (cut_box s a (start_of a) q) (grid s a.start)
start_in_cut s a q step =
    let p = start_of a in
    place_between a.plane s a.start _ _ _ _ _ _
    (low_of_first s a p.u q.u step) (high_of_first s a p.u q.u step) (low_of_first s a p.v q.v step) (high_of_first s a p.v q.v step)
    (omega (arith, ints, clamps)) (omega (arith, ints, clamps))

pub end_in_cut : (s : ℤ) (a : ArcShape) (p : Point2) → IsStep s → IsIn (cut_box s a p (end_of a)) (grid s a.end)
end_in_cut s a p step =
    let q = end_of a in
    place_between a.plane s a.end _ _ _ _ _ _
    (low_of_second s a p.u q.u step) (high_of_second s a p.u q.u step) (low_of_second s a p.v q.v step) (high_of_second s a p.v q.v step)
    (omega (arith, ints, clamps)) (omega (arith, ints, clamps))
