-- The grid points of an arc's ends lie in its swept box.
use Rattle.std.proofs.Common.{◌≤◌, ℤ, pos, negsuc, ◌+ℤ◌, ◌-ℤ◌, ◌*ℤ◌, ◌≤ℤ◌, unsigned_abs, List, [], ◌∷◌, fold, map, arith}
use Rattle.std.specs.Int.{int_min, int_max}
use Rattle.std.proofs.lemmas.Int.{ints, clamps}
use Rattle.ngc_fixed_length.specs.declared.modes.Plane.{Plane}
use Rattle.ngc_fixed_length.specs.declared.modes.Plane.TheVariants.{XY, ZX, YZ}
use Rattle.ngc_fixed_length.specs.declared.points.Point2.{Point2}
use Rattle.ngc_fixed_length.specs.declared.points.Point3.{Point3}
use Rattle.ngc_fixed_length.specs.Length.{IsStep}
use Rattle.ngc_fixed_length.specs.Grid.{grid}
use Rattle.ngc_fixed_length.specs.Boxes.{IsBetween, grid_above, grid_below}
use Rattle.ngc_fixed_length.specs.Places.{in_plane, height}
use Rattle.ngc_fixed_length.specs.Rounding.{nearest}
use Rattle.ngc_fixed_length.proofs.Nearest.{nearest_near}
use Rattle.ngc_arc_geometry.specs.Shape.{ArcShape, start_of, end_of}
use Rattle.ngc_arc_geometry.specs.Sector.{extremes}
use Rattle.ngc_arc_geometry.specs.Swept.{margin, least, greatest, other_points, low_at, high_at, start_height, end_height, grid_at, swept_low, swept_high}
use Rattle.ngc_arc_geometry.proofs.GridLemmas.{quotient_near, above_near}
use Rattle.ngc_arc_geometry.proofs.SpanLemmas.{ordered}

-- ---- the least and the greatest of some numbers

fold_min_le : (x : ℤ) (xs : List ℤ) → fold int_min x xs ≤ℤ x
fold_min_le x [] = omega (arith, ints)
fold_min_le x (y ∷ ys) = let rest = fold_min_le (int_min x y) ys in omega (arith, ints, clamps, rest)

le_fold_max : (x : ℤ) (xs : List ℤ) → x ≤ℤ fold int_max x xs
le_fold_max x [] = omega (arith, ints)
le_fold_max x (y ∷ ys) = let rest = le_fold_max (int_max x y) ys in omega (arith, ints, clamps, rest)

least_first : (f : Point2 → ℤ) (p q : Point2) (ps : List Point2) → least f p (q ∷ ps) ≤ℤ f p
least_first f p q ps = fold_min_le (f p) (map f (q ∷ ps))

least_second : (f : Point2 → ℤ) (p q : Point2) (ps : List Point2) → least f p (q ∷ ps) ≤ℤ f q
least_second f p q ps = let rest = fold_min_le (int_min (f p) (f q)) (map f ps) in omega (arith, ints, clamps, rest)

greatest_first : (f : Point2 → ℤ) (p q : Point2) (ps : List Point2) → f p ≤ℤ greatest f p (q ∷ ps)
greatest_first f p q ps = le_fold_max (f p) (map f (q ∷ ps))

greatest_second : (f : Point2 → ℤ) (p q : Point2) (ps : List Point2) → f q ≤ℤ greatest f p (q ∷ ps)
greatest_second f p q ps = let rest = le_fold_max (int_max (f p) (f q)) (map f ps) in omega (arith, ints, clamps, rest)

-- ---- the grid point of a length that is two steps inside the bounds

near_step : (z s : ℤ) → IsStep s → unsigned_abs (z -ℤ (nearest z s *ℤ s)) ≤ unsigned_abs s
near_step z (pos s) step = let near = nearest_near z s (omega (arith, ints, step.least)) in omega (arith, ints, near)
near_step z (negsuc s) step = absurd (omega (arith, ints, step.least))

pub above_inside : (s low z : ℤ) → IsStep s → (low +ℤ s +ℤ s) ≤ℤ z → grid_above s low ≤ℤ nearest z s
above_inside s low z step inside =
    let near = near_step z s step in
    ordered low z s (grid_above s low) (nearest z s) step inside (above_near low s step) (omega (arith, ints, near, step.least))

pub inside_below : (s z high : ℤ) → IsStep s → (z +ℤ s +ℤ s) ≤ℤ high → nearest z s ≤ℤ grid_below s high
inside_below s z high step inside =
    let near = near_step z s step in
    ordered z high s (nearest z s) (grid_below s high) step inside (omega (arith, ints, near, step.least)) (quotient_near high s step)

-- ---- along an axis of the plane

within_low : (s : ℤ) (a : ArcShape) (f : Point2 → ℤ) (z : ℤ) → IsStep s → least f (start_of a) (other_points a) ≤ℤ z → low_at s a f ≤ℤ nearest z s
within_low s a f z step low = above_inside s (least f (start_of a) (other_points a) -ℤ margin s a) z step (omega (arith, ints, low))

within_high : (s : ℤ) (a : ArcShape) (f : Point2 → ℤ) (z : ℤ) → IsStep s → z ≤ℤ greatest f (start_of a) (other_points a) → nearest z s ≤ℤ high_at s a f
within_high s a f z step high = inside_below s z (greatest f (start_of a) (other_points a) +ℤ margin s a) step (omega (arith, ints, high))

-- ---- the three axes, in the plane's names

pub place_between : (plane : Plane) (s : ℤ) (p : Point3) (u v w u' v' w' : ℤ) →
    u ≤ℤ nearest (in_plane plane p).u s → nearest (in_plane plane p).u s ≤ℤ u' →
    v ≤ℤ nearest (in_plane plane p).v s → nearest (in_plane plane p).v s ≤ℤ v' →
    w ≤ℤ nearest (height plane p) s → nearest (height plane p) s ≤ℤ w' →
    IsBetween (grid_at plane u v w) (grid_at plane u' v' w') (grid s p)
place_between XY s p u v w u' v' w' lu hu lv hv lw hw = record { x_low = lu; x_high = hu; y_low = lv; y_high = hv; z_low = lw; z_high = hw }
place_between ZX s p u v w u' v' w' lu hu lv hv lw hw = record { x_low = lv; x_high = hv; y_low = lw; y_high = hw; z_low = lu; z_high = hu }
place_between YZ s p u v w u' v' w' lu hu lv hv lw hw = record { x_low = lw; x_high = hw; y_low = lu; y_high = hu; z_low = lv; z_high = hv }

min_le_first : (x y : ℤ) → int_min x y ≤ℤ x
min_le_first x y = omega (arith, ints, clamps)

min_le_second : (x y : ℤ) → int_min x y ≤ℤ y
min_le_second x y = omega (arith, ints, clamps)

first_le_max : (x y : ℤ) → x ≤ℤ int_max x y
first_le_max x y = omega (arith, ints, clamps)

second_le_max : (x y : ℤ) → y ≤ℤ int_max x y
second_le_max x y = omega (arith, ints, clamps)

abbrev u_of : Point2 → ℤ
u_of p = p.u

abbrev v_of : Point2 → ℤ
v_of p = p.v

pub start_inside : (s : ℤ) (a : ArcShape) → IsStep s → IsBetween (swept_low s a) (swept_high s a) (grid s a.start)
start_inside s a step =
    let p = start_of a in
    let q = end_of a in
    let rest = extremes a in
    place_between a.plane s a.start _ _ _ _ _ _
    (within_low s a u_of p.u step (least_first u_of p q rest)) (within_high s a u_of p.u step (greatest_first u_of p q rest))
    (within_low s a v_of p.v step (least_first v_of p q rest)) (within_high s a v_of p.v step (greatest_first v_of p q rest))
    (min_le_first (start_height s a) (end_height s a)) (first_le_max (start_height s a) (end_height s a))

pub end_inside : (s : ℤ) (a : ArcShape) → IsStep s → IsBetween (swept_low s a) (swept_high s a) (grid s a.end)
end_inside s a step =
    let p = start_of a in
    let q = end_of a in
    let rest = extremes a in
    place_between a.plane s a.end _ _ _ _ _ _
    (within_low s a u_of q.u step (least_second u_of p q rest)) (within_high s a u_of q.u step (greatest_second u_of p q rest))
    (within_low s a v_of q.v step (least_second v_of p q rest)) (within_high s a v_of q.v step (greatest_second v_of p q rest))
    (min_le_second (start_height s a) (end_height s a)) (second_le_max (start_height s a) (end_height s a))
