-- The swept box of an arc that moves as a whole.
use Rattle.std.proofs.Common.{◌≡◌, ℕ, ◌-◌, ◌<◌, min, max, ℤ, pos, negsuc, ◌+ℤ◌, ◌-ℤ◌, ◌*ℤ◌, ◌≤ℤ◌, unsigned_abs, refl, sym, ap, ap₂, ◌∙◌, arith, List, [], ◌∷◌, ◌++◌, map, true, false}
use Rattle.std.specs.Prelude.{Bool, ◌&&◌, ◌||◌, if◌then◌else◌, cond, fold, filter, take, drop, int_le, int_lt}
use Rattle.std.specs.Int.{int_min, int_max}
use Rattle.std.proofs.lemmas.Int.{ints, clamps}
use Rattle.std.proofs.lemmas.List.{drop-map, take-map, map-append}
use Rattle.ngc_fixed_length.specs.Length.{IsStep}
use Rattle.ngc_fixed_length.specs.Places.{plus, shifted as moved, in_plane, height, from, cross, dot}
use Rattle.ngc_fixed_length.specs.Roots.{whole_root, whole_root_above}
use Rattle.ngc_fixed_length.specs.Signed.{is_zero}
use Rattle.ngc_fixed_length.specs.declared.modes.Plane.{Plane}
use Rattle.ngc_fixed_length.specs.declared.modes.Plane.TheVariants.{XY, ZX, YZ}
use Rattle.ngc_fixed_length.specs.declared.modes.Turn.{Turn}
use Rattle.ngc_fixed_length.specs.declared.modes.Turn.TheVariants.{Clockwise, Counterclockwise}
use Rattle.ngc_fixed_length.specs.declared.points.Point2.{Point2}
use Rattle.ngc_fixed_length.specs.declared.points.Point3.{Point3}
use Rattle.ngc_fixed_length.specs.declared.points.StepPos.{StepPos}
use Rattle.ngc_arc_geometry.specs.Shape.{ArcShape, start_of, end_of}
use Rattle.ngc_arc_geometry.specs.Radii.{squared_distance, inner_radius, outer_radius}
use Rattle.ngc_arc_geometry.specs.Sector.{turning, turn_from, is_ahead, is_full, in_sector, quadrant_points, first_met, first_quadrant, rotated, quadrants_in_turn, extremes}
use Rattle.ngc_arc_geometry.specs.Swept.{margin, other_points, least, greatest, low_at, high_at, grid_at, swept_box}
use Rattle.ngc_arc_geometry.proofs.Points.{same_point}
use Rattle.ngc_collision.specs.Body.{nanometres_of}
use Rattle.ngc_fixed_length.specs.Rounding.{nearest}
use Rattle.ngc_fixed_length.specs.Grid.{grid}
use Rattle.ngc_fixed_length.specs.Boxes.{grid_above, grid_below}
use Rattle.ngc_place.specs.Shifts.{arc_shifted, shifted as point_shifted}
use Rattle.ngc_place.specs.Inside.{along, steps_along, step_height, least_of, greatest_of, margin_of, first_at, last_at, low_corner, high_corner}
use Rattle.ngc_place.specs.declared.round.PlaneAxis.{PlaneAxis}
use Rattle.ngc_place.specs.declared.round.PlaneAxis.TheVariants.{U, V}
use Rattle.ngc_place.proofs.Rounded.{nearest_up, below_up, above_up, scale_by, sum_up}
use Rattle.ngc_place.proofs.PathBoxes.{IsUnder, Rises, least_up, greatest_up}

-- ---- points of a plane

plane_moved : (plane : Plane) (p v : Point3) → in_plane plane (plus p v) ≡ moved (in_plane plane p) (in_plane plane v)
plane_moved XY p v = refl
plane_moved ZX p v = refl
plane_moved YZ p v = refl

from_moved : (c p d : Point2) → from (moved c d) (moved p d) ≡ from c p
from_moved c p d = same_point _ _ _ _ (omega (arith, ints)) (omega (arith, ints))

-- the shift in the coordinates of an arc's plane
abbrev pub seen : ℤ → StepPos → ArcShape → Point2
seen step n a = in_plane a.plane (nanometres_of step n)

start_moved : (step : ℤ) (n : StepPos) (a : ArcShape) → start_of (arc_shifted step n true a) ≡ moved (start_of a) (seen step n a)
start_moved step n a = plane_moved a.plane a.start (nanometres_of step n)

end_moved : (step : ℤ) (n : StepPos) (a : ArcShape) → end_of (arc_shifted step n true a) ≡ moved (end_of a) (seen step n a)
end_moved step n a = plane_moved a.plane a.end (nanometres_of step n)

-- a point relative to the centre stays
centre_sees : (step : ℤ) (n : StepPos) (a : ArcShape) (p q : Point2) → q ≡ moved p (seen step n a) →
    from (arc_shifted step n true a).centre q ≡ from a.centre p
centre_sees step n a p q h = ap (from (moved a.centre (seen step n a))) h ∙ from_moved a.centre p (seen step n a)

-- ---- radii

distance_stays : (step : ℤ) (n : StepPos) (a : ArcShape) (p q : Point2) → q ≡ moved p (seen step n a) →
    squared_distance (arc_shifted step n true a).centre q ≡ squared_distance a.centre p
distance_stays step n a p q h = ap (λ d. unsigned_abs (dot d d)) (centre_sees step n a p q h)

outer_stays : (step : ℤ) (n : StepPos) (a : ArcShape) → outer_radius (arc_shifted step n true a) ≡ outer_radius a
outer_stays step n a =
    ap₂ (λ x y. whole_root_above (max x y)) (distance_stays step n a (start_of a) (start_of (arc_shifted step n true a)) (start_moved step n a))
    (distance_stays step n a (end_of a) (end_of (arc_shifted step n true a)) (end_moved step n a))

inner_stays : (step : ℤ) (n : StepPos) (a : ArcShape) → inner_radius (arc_shifted step n true a) ≡ inner_radius a
inner_stays step n a =
    ap₂ (λ x y. whole_root (min x y)) (distance_stays step n a (start_of a) (start_of (arc_shifted step n true a)) (start_moved step n a))
    (distance_stays step n a (end_of a) (end_of (arc_shifted step n true a)) (end_moved step n a))

margin_stays : (step : ℤ) (n : StepPos) (a : ArcShape) → margin step (arc_shifted step n true a) ≡ margin step a
margin_stays step n a = ap₂ (λ x y. pos 2 *ℤ step +ℤ pos (x - y)) (outer_stays step n a) (inner_stays step n a)

-- ---- the sector

turn_stays : (step : ℤ) (n : StepPos) (a : ArcShape) (p q p' q' : Point2) → p' ≡ moved p (seen step n a) → q' ≡ moved q (seen step n a) →
    turn_from (arc_shifted step n true a) p' q' ≡ turn_from a p q
turn_stays step n a p q p' q' h i = ap₂ (λ d e. turning a.turn (cross d e)) (centre_sees step n a p p' h) (centre_sees step n a q q' i)

ahead_stays : (step : ℤ) (n : StepPos) (a : ArcShape) (p q p' q' : Point2) → p' ≡ moved p (seen step n a) → q' ≡ moved q (seen step n a) →
    is_ahead (arc_shifted step n true a) p' q' ≡ is_ahead a p q
ahead_stays step n a p q p' q' h i = ap (int_le (pos 0)) (turn_stays step n a p q p' q' h i)

full_stays : (step : ℤ) (n : StepPos) (a : ArcShape) → is_full (arc_shifted step n true a) ≡ is_full a
full_stays step n a =
    let h = start_moved step n a in
    let i = end_moved step n a in
    let d = centre_sees step n a (start_of a) (start_of (arc_shifted step n true a)) h in
    let e = centre_sees step n a (end_of a) (end_of (arc_shifted step n true a)) i in
    ap₂ (λ d e. is_zero (turning a.turn (cross d e)) && int_lt (pos 0) (dot d e)) d e

abbrev sector : Bool → Bool → Bool → Bool → Bool
sector full half from_start to_end =
    if full then true else (if half then from_start && to_end else from_start || to_end)

sector_is : (f g h i x y z w : Bool) → f ≡ g → h ≡ i → x ≡ y → z ≡ w → sector f h x z ≡ sector g i y w
sector_is f g h i x y z w a b c d = ap₂ (λ u v. sector u v x z) a b ∙ ap₂ (λ u v. sector g i u v) c d

sector_stays : (step : ℤ) (n : StepPos) (a : ArcShape) (p : Point2) →
    in_sector (arc_shifted step n true a) (moved p (seen step n a)) ≡ in_sector a p
sector_stays step n a p =
    let s = start_of (arc_shifted step n true a) in
    let e = end_of (arc_shifted step n true a) in
    let q = moved p (seen step n a) in
    let h = start_moved step n a in
    let i = end_moved step n a in
    sector_is _ _ _ _ _ _ _ _ (full_stays step n a) (ahead_stays step n a (start_of a) (end_of a) s e h i)
    (ahead_stays step n a (start_of a) p s q h refl) (ahead_stays step n a p (end_of a) q e refl i)

-- ---- quadrant points

four : {a b c d w x y z : Point2} → a ≡ w → b ≡ x → c ≡ y → d ≡ z → (a ∷ b ∷ c ∷ d ∷ []) ≡ (w ∷ x ∷ y ∷ z ∷ [])
four e f g h = cc (e, f, g, h)

quadrants_moved : (t : Turn) (c d : Point2) (r : ℤ) → quadrant_points t (moved c d) r ≡ map (λ p. moved p d) (quadrant_points t c r)
quadrants_moved Counterclockwise c d r =
    four (same_point _ _ _ _ (omega (arith, ints)) refl) (same_point _ _ _ _ refl (omega (arith, ints)))
    (same_point _ _ _ _ (omega (arith, ints)) refl) (same_point _ _ _ _ refl (omega (arith, ints)))
quadrants_moved Clockwise c d r =
    four (same_point _ _ _ _ (omega (arith, ints)) refl) (same_point _ _ _ _ refl (omega (arith, ints)))
    (same_point _ _ _ _ (omega (arith, ints)) refl) (same_point _ _ _ _ refl (omega (arith, ints)))

first_stays : (step : ℤ) (n : StepPos) (a : ArcShape) → first_quadrant (arc_shifted step n true a) ≡ first_quadrant a
first_stays step n a =
    ap (λ (d : Point2). first_met d.u (turning a.turn d.v)) (centre_sees step n a (start_of a) (start_of (arc_shifted step n true a)) (start_moved step n a))

rotated_moved : (k : ℕ) (d : Point2) (ps : List Point2) → rotated k (map (λ p. moved p d) ps) ≡ map (λ p. moved p d) (rotated k ps)
rotated_moved k d ps =
    ap₂ (λ xs ys. xs ++ ys) (drop-map (λ p. moved p d) k ps) (take-map (λ p. moved p d) k ps)
    ∙ sym (map-append (λ p. moved p d) (drop k ps) (take k ps))

turned_moved : (step : ℤ) (n : StepPos) (a : ArcShape) →
    quadrants_in_turn (arc_shifted step n true a) ≡ map (λ p. moved p (seen step n a)) (quadrants_in_turn a)
turned_moved step n a =
    let d = seen step n a in
    ap₂ (λ k r. rotated k (quadrant_points a.turn (moved a.centre d) (pos r))) (first_stays step n a) (outer_stays step n a)
    ∙ ap (rotated (first_quadrant a)) (quadrants_moved a.turn a.centre d (pos (outer_radius a)))
    ∙ rotated_moved (first_quadrant a) d (quadrant_points a.turn a.centre (pos (outer_radius a)))

kept_moved : (b c : Bool) (g : Point2 → Point2) (p : Point2) (ps qs : List Point2) → b ≡ c → ps ≡ map g qs →
    cond b (g p ∷ ps) ps ≡ map g (cond c (p ∷ qs) qs)
kept_moved true true g p ps qs h e = ap (λ xs. g p ∷ xs) e
kept_moved true false g p ps qs h e = absurd (true≢false h)
  where
    true≢false : true ≡ false → ⊥
    true≢false k = cc
kept_moved false true g p ps qs h e = absurd (false≢true h)
  where
    false≢true : false ≡ true → ⊥
    false≢true k = cc
kept_moved false false g p ps qs h e = e

filter_moved : (f f' : Point2 → Bool) (g : Point2 → Point2) (ps : List Point2) → ((p : Point2) → f' (g p) ≡ f p) →
    filter f' (map g ps) ≡ map g (filter f ps)
filter_moved f f' g [] h = refl
filter_moved f f' g (p ∷ ps) h = kept_moved (f' (g p)) (f p) g p (filter f' (map g ps)) (filter f ps) (h p) (filter_moved f f' g ps h)

extremes_moved : (step : ℤ) (n : StepPos) (a : ArcShape) →
    extremes (arc_shifted step n true a) ≡ map (λ p. moved p (seen step n a)) (extremes a)
extremes_moved step n a =
    ap (filter (in_sector (arc_shifted step n true a))) (turned_moved step n a)
    ∙ filter_moved (in_sector a) (in_sector (arc_shifted step n true a)) (λ p. moved p (seen step n a)) (quadrants_in_turn a) (sector_stays step n a)

others_moved : (step : ℤ) (n : StepPos) (a : ArcShape) →
    other_points (arc_shifted step n true a) ≡ map (λ p. moved p (seen step n a)) (other_points a)
others_moved step n a = ap₂ (λ p ps. p ∷ ps) (end_moved step n a) (extremes_moved step n a)

-- ---- the least and the greatest coordinate

min_moved : (x y d : ℤ) → int_min (x +ℤ d) (y +ℤ d) ≡ int_min x y +ℤ d
min_moved x y d = omega (arith, ints, clamps)

max_moved : (x y d : ℤ) → int_max (x +ℤ d) (y +ℤ d) ≡ int_max x y +ℤ d
max_moved x y d = omega (arith, ints, clamps)

fold_moved : (op : ℤ → ℤ → ℤ) (f : Point2 → ℤ) (d : ℤ) (g : Point2 → Point2) → ((x y : ℤ) → op (x +ℤ d) (y +ℤ d) ≡ op x y +ℤ d) →
    ((p : Point2) → f (g p) ≡ f p +ℤ d) → (z : ℤ) (ps : List Point2) → fold op (z +ℤ d) (map f (map g ps)) ≡ fold op z (map f ps) +ℤ d
fold_moved op f d g o e z [] = refl
fold_moved op f d g o e z (p ∷ ps) =
    ap (λ y. fold op y (map f (map g ps))) (ap (op (z +ℤ d)) (e p) ∙ o z (f p)) ∙ fold_moved op f d g o e (op z (f p)) ps

pub least_moved : (step : ℤ) (n : StepPos) (a : ArcShape) (f : Point2 → ℤ) (d : ℤ) → ((p : Point2) → f (moved p (seen step n a)) ≡ f p +ℤ d) →
    least f (start_of (arc_shifted step n true a)) (other_points (arc_shifted step n true a)) ≡ least f (start_of a) (other_points a) +ℤ d
least_moved step n a f d e =
    ap₂ (λ p ps. fold int_min (f p) (map f ps)) (start_moved step n a) (others_moved step n a)
    ∙ ap (λ z. fold int_min z (map f (map (λ p. moved p (seen step n a)) (other_points a)))) (e (start_of a))
    ∙ fold_moved int_min f d (λ p. moved p (seen step n a)) (λ x y. min_moved x y d) e (f (start_of a)) (other_points a)

pub greatest_moved : (step : ℤ) (n : StepPos) (a : ArcShape) (f : Point2 → ℤ) (d : ℤ) → ((p : Point2) → f (moved p (seen step n a)) ≡ f p +ℤ d) →
    greatest f (start_of (arc_shifted step n true a)) (other_points (arc_shifted step n true a)) ≡ greatest f (start_of a) (other_points a) +ℤ d
greatest_moved step n a f d e =
    ap₂ (λ p ps. fold int_max (f p) (map f ps)) (start_moved step n a) (others_moved step n a)
    ∙ ap (λ z. fold int_max z (map f (map (λ p. moved p (seen step n a)) (other_points a)))) (e (start_of a))
    ∙ fold_moved int_max f d (λ p. moved p (seen step n a)) (λ x y. max_moved x y d) e (f (start_of a)) (other_points a)

-- ---- the box's corners rise

difference_up : (x y l d e m g h : ℤ) → x ≡ l +ℤ d → y ≡ l +ℤ e → g ≡ m → h ≡ m → d ≤ℤ e → (x -ℤ g) ≤ℤ (y -ℤ h)
difference_up x y l d e m g h i j k o up = omega (arith, ints, i, j, k, o, up)

sums_up : (x y l d e m g h : ℤ) → x ≡ l +ℤ d → y ≡ l +ℤ e → g ≡ m → h ≡ m → d ≤ℤ e → (x +ℤ g) ≤ℤ (y +ℤ h)
sums_up x y l d e m g h i j k o up = omega (arith, ints, i, j, k, o, up)

low_rises : (k : ℕ) (n m : StepPos) (a : ArcShape) (f : Point2 → ℤ) (d e : ℤ) → 0 < k → ((p : Point2) → f (moved p (seen (pos k) n a)) ≡ f p +ℤ d) →
    ((p : Point2) → f (moved p (seen (pos k) m a)) ≡ f p +ℤ e) → d ≤ℤ e →
    low_at (pos k) (arc_shifted (pos k) n true a) f ≤ℤ low_at (pos k) (arc_shifted (pos k) m true a) f
low_rises k n m a f d e some at_n at_m up =
    above_up _ _ k some
    (difference_up _ _ (least f (start_of a) (other_points a)) d e (margin (pos k) a) _ _ (least_moved (pos k) n a f d at_n) (least_moved (pos k) m a f e at_m)
    (margin_stays (pos k) n a) (margin_stays (pos k) m a) up)

high_rises : (k : ℕ) (n m : StepPos) (a : ArcShape) (f : Point2 → ℤ) (d e : ℤ) → 0 < k → ((p : Point2) → f (moved p (seen (pos k) n a)) ≡ f p +ℤ d) →
    ((p : Point2) → f (moved p (seen (pos k) m a)) ≡ f p +ℤ e) → d ≤ℤ e →
    high_at (pos k) (arc_shifted (pos k) n true a) f ≤ℤ high_at (pos k) (arc_shifted (pos k) m true a) f
high_rises k n m a f d e some at_n at_m up =
    below_up _ _ k some
    (sums_up _ _ (greatest f (start_of a) (other_points a)) d e (margin (pos k) a) _ _ (greatest_moved (pos k) n a f d at_n)
    (greatest_moved (pos k) m a f e at_m) (margin_stays (pos k) n a) (margin_stays (pos k) m a) up)

seen_u : (plane : Plane) (step : ℤ) (n m : StepPos) → IsStep step → IsUnder n m →
    (in_plane plane (nanometres_of step n)).u ≤ℤ (in_plane plane (nanometres_of step m)).u
seen_u XY step n m range h = scale_by step n.x m.x range h.x
seen_u ZX step n m range h = scale_by step n.z m.z range h.z
seen_u YZ step n m range h = scale_by step n.y m.y range h.y

seen_v : (plane : Plane) (step : ℤ) (n m : StepPos) → IsStep step → IsUnder n m →
    (in_plane plane (nanometres_of step n)).v ≤ℤ (in_plane plane (nanometres_of step m)).v
seen_v XY step n m range h = scale_by step n.y m.y range h.y
seen_v ZX step n m range h = scale_by step n.x m.x range h.x
seen_v YZ step n m range h = scale_by step n.z m.z range h.z

height_rises : (plane : Plane) (step : ℤ) (n m : StepPos) (p : Point3) → IsStep step → IsUnder n m →
    height plane (plus p (nanometres_of step n)) ≤ℤ height plane (plus p (nanometres_of step m))
height_rises XY step n m p range h = sum_up p.z (n.z *ℤ step) (m.z *ℤ step) (scale_by step n.z m.z range h.z)
height_rises ZX step n m p range h = sum_up p.y (n.y *ℤ step) (m.y *ℤ step) (scale_by step n.y m.y range h.y)
height_rises YZ step n m p range h = sum_up p.x (n.x *ℤ step) (m.x *ℤ step) (scale_by step n.x m.x range h.x)

grid_under : (plane : Plane) (u v w x y z : ℤ) → u ≤ℤ x → v ≤ℤ y → w ≤ℤ z → IsUnder (grid_at plane u v w) (grid_at plane x y z)
grid_under XY u v w x y z h i j = record { x = h; y = i; z = j }
grid_under ZX u v w x y z h i j = record { x = i; y = j; z = h }
grid_under YZ u v w x y z h i j = record { x = j; y = h; z = i }

pub arc_rises : (step : ℤ) (n m : StepPos) (a : ArcShape) → IsStep step → IsUnder n m →
    Rises (swept_box step (arc_shifted step n true a)) (swept_box step (arc_shifted step m true a))
arc_rises (pos k) n m a range h =
    let some : 0 < k = omega (arith, ints, range.least) in
    let u = seen_u a.plane (pos k) n m range h in
    let v = seen_v a.plane (pos k) n m range h in
    let start = nearest_up _ _ k some (height_rises a.plane (pos k) n m a.start range h) in
    let end = nearest_up _ _ k some (height_rises a.plane (pos k) n m a.end range h) in
    record {
      low = grid_under a.plane _ _ _ _ _ _ (low_rises k n m a (λ p. p.u) (seen (pos k) n a).u (seen (pos k) m a).u some (λ p. refl) (λ p. refl) u)
          (low_rises k n m a (λ p. p.v) (seen (pos k) n a).v (seen (pos k) m a).v some (λ p. refl) (λ p. refl) v)
          (least_up _ _ _ _ start end);
      high = grid_under a.plane _ _ _ _ _ _ (high_rises k n m a (λ p. p.u) (seen (pos k) n a).u (seen (pos k) m a).u some (λ p. refl) (λ p. refl) u)
          (high_rises k n m a (λ p. p.v) (seen (pos k) n a).v (seen (pos k) m a).v some (λ p. refl) (λ p. refl) v)
          (greatest_up _ _ _ _ start end);
    }
arc_rises (negsuc k) n m a range h = absurd (omega (arith, ints, range.least))

-- ---- the coordinates of the box's corners

along_moved : (axis : PlaneAxis) (p d : Point2) → along axis (moved p d) ≡ along axis p +ℤ along axis d
along_moved U p d = refl
along_moved V p d = refl

steps_are : (plane : Plane) (axis : PlaneAxis) (step : ℤ) (n : StepPos) →
    along axis (in_plane plane (nanometres_of step n)) ≡ steps_along plane axis n *ℤ step
steps_are XY U step n = refl
steps_are ZX U step n = refl
steps_are YZ U step n = refl
steps_are XY V step n = refl
steps_are ZX V step n = refl
steps_are YZ V step n = refl

pub first_is : (step : ℤ) (n : StepPos) (axis : PlaneAxis) (a : ArcShape) →
    first_at step n axis a ≡ grid_above step ((least_of axis a +ℤ (steps_along a.plane axis n *ℤ step)) -ℤ margin_of step a)
unfolding first_at least_of margin_of
first_is step n axis a =
    ap₂ (λ x m. grid_above step (x -ℤ m)) (least_moved step n a (along axis) (along axis (seen step n a)) (λ p. along_moved axis p (seen step n a)))
    (margin_stays step n a)
    ∙ ap (λ d. grid_above step ((least (along axis) (start_of a) (other_points a) +ℤ d) -ℤ margin step a)) (steps_are a.plane axis step n)

pub last_is : (step : ℤ) (n : StepPos) (axis : PlaneAxis) (a : ArcShape) →
    last_at step n axis a ≡ grid_below step ((greatest_of axis a +ℤ (steps_along a.plane axis n *ℤ step)) +ℤ margin_of step a)
unfolding last_at greatest_of margin_of
last_is step n axis a =
    ap₂ (λ x m. grid_below step (x +ℤ m)) (greatest_moved step n a (along axis) (along axis (seen step n a)) (λ p. along_moved axis p (seen step n a)))
    (margin_stays step n a)
    ∙ ap (λ d. grid_below step ((greatest (along axis) (start_of a) (other_points a) +ℤ d) +ℤ margin step a)) (steps_are a.plane axis step n)

pub height_is : (plane : Plane) (step : ℤ) (p : Point3) → step_height plane (grid step p) ≡ nearest (height plane p) step
height_is XY step p = refl
height_is ZX step p = refl
height_is YZ step p = refl

pub grid_same : (p q : Plane) (u v w x y z : ℤ) → p ≡ q → u ≡ x → v ≡ y → w ≡ z → grid_at p u v w ≡ grid_at q x y z
grid_same p q u v w x y z e f g h = ap (λ k. grid_at k u v w) e ∙ ap₂ (λ k l. grid_at q k l w) f g ∙ ap (grid_at q x y) h

pub low_is : (step : ℤ) (n : StepPos) (a : ArcShape) →
    low_corner step n true a
    ≡ grid_at a.plane (first_at step n U a) (first_at step n V a)
    (int_min (step_height a.plane (grid step (point_shifted step n true a.start))) (step_height a.plane (grid step (point_shifted step n true a.end))))
unfolding low_corner first_at
low_is step n a =
    ap₂ (λ s e. grid_at a.plane (low_at step (arc_shifted step n true a) (along U)) (low_at step (arc_shifted step n true a) (along V)) (int_min s e))
    (sym (height_is a.plane step (plus a.start (nanometres_of step n)))) (sym (height_is a.plane step (plus a.end (nanometres_of step n))))

pub high_is : (step : ℤ) (n : StepPos) (a : ArcShape) →
    high_corner step n true a
    ≡ grid_at a.plane (last_at step n U a) (last_at step n V a)
    (int_max (step_height a.plane (grid step (point_shifted step n true a.start))) (step_height a.plane (grid step (point_shifted step n true a.end))))
unfolding high_corner last_at
high_is step n a =
    ap₂ (λ s e. grid_at a.plane (high_at step (arc_shifted step n true a) (along U)) (high_at step (arc_shifted step n true a) (along V)) (int_max s e))
    (sym (height_is a.plane step (plus a.start (nanometres_of step n)))) (sym (height_is a.plane step (plus a.end (nanometres_of step n))))
