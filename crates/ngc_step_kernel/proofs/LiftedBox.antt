-- The points of a lifted course lie in the arc's swept box.
use Rattle.std.proofs.Common.{◌≡◌, ℕ, suc, ◌+◌, ◌*◌, ◌/◌, ◌<◌, ◌≤◌, inl, inr, refl, arith, ℤ, pos, negsuc, ◌+ℤ◌, ◌-ℤ◌, ◌*ℤ◌, ◌≤ℤ◌, neg_ℤ}
use Rattle.std.specs.Int.{int_min, int_max}
use Rattle.std.proofs.lemmas.Bool.{cases_lt}
use Rattle.std.proofs.lemmas.Int.{ints, clamps, by_lt_z}
use Rattle.std.proofs.lemmas.Nat.{div-add-mod', le-div}
use Rattle.std.proofs.Math.Nat.{mul-le-mul_left}
use borrow.Author.Differences.{neg_is}
use Rattle.ngc_fixed_length.specs.Boxes.{IsIn, IsBetween, grid_above, grid_below}
use Rattle.ngc_fixed_length.specs.Grid.{distance}
use Rattle.ngc_fixed_length.specs.declared.modes.Plane.{Plane}
use Rattle.ngc_fixed_length.specs.declared.modes.Plane.TheVariants.{XY, ZX, YZ}
use Rattle.ngc_fixed_length.specs.declared.modes.Turn.{Turn}
use Rattle.ngc_fixed_length.specs.declared.modes.Turn.TheVariants.{Counterclockwise, Clockwise}
use Rattle.ngc_fixed_length.specs.declared.points.Point2.{Point2}
use Rattle.ngc_arc_geometry.specs.ArcBand.{spread}
use Rattle.ngc_arc_geometry.specs.Shape.{ArcShape, start_of}
use Rattle.ngc_arc_geometry.specs.Swept.{least, greatest, other_points, margin, low_at, high_at, start_height, end_height, grid_at, swept_box}
use Rattle.ngc_circle_laws.specs.Hull.{first_of, second_of, IsNearHull}
use Rattle.ngc_circle_laws.proofs.CrossProducts.{neg_times}
use Rattle.ngc_step_kernel.specs.declared.spot.Spot.{Spot}
use Rattle.ngc_step_kernel.specs.Line.{toward, line_place}
use Rattle.ngc_step_kernel.specs.PlaneCourse.{laid}
use Rattle.ngc_step_kernel.specs.Round.{turned, in_space}
use Rattle.ngc_step_kernel.proofs.Sharing.{steps, steps-within}

-- ---- grid points inside a bound

below_fits : (z l : ℤ) (g : ℕ) → 0 < g → (z *ℤ pos g) ≤ℤ l → z ≤ℤ grid_below (pos g) l
below_fits (pos z) (pos l) g some h = let p = le-div z l g some (omega (arith, ints, h)) in omega (arith, ints, p)
below_fits (negsuc z) (pos l) g some h = omega (arith, ints)
below_fits (pos z) (negsuc l) g some h = absurd (omega (arith, ints, h))
below_fits (negsuc z) (negsuc l) g some h =
    let e = neg_is (pos (suc z * g)) in
    let whole = div-add-mod' l g in
    elim (cases_lt z (l / g)) [
      | inl more ↦ (let p : g * suc z ≤ g * (l / g) = mul-le-mul_left g more in absurd (omega (arith, ints, h, e, p, whole)))
      | inr fine ↦ omega (arith, ints, fine)
    ]

above_fits : (z l : ℤ) (g : ℕ) → 0 < g → l ≤ℤ (z *ℤ pos g) → grid_above (pos g) l ≤ℤ z
above_fits z l g some h =
    let a = neg_is l in
    let b = neg_is (z *ℤ pos g) in
    let p = below_fits (neg_ℤ z) (neg_ℤ l) g some (omega (arith, ints, h, a, b, neg_times z (pos g))) in
    omega (arith, ints, p, neg_is z, neg_is (grid_below (pos g) (neg_ℤ l)))

low_held : (g : ℕ) (a : ArcShape) (f : Point2 → ℤ) (z : ℤ) → 0 < g → (least f (start_of a) (other_points a) -ℤ pos (2 * g + spread a)) ≤ℤ (z *ℤ pos g) →
    low_at (pos g) a f ≤ℤ z
low_held g a f z some h = above_fits z (least f (start_of a) (other_points a) -ℤ margin (pos g) a) g some (omega (arith, ints, h))

high_held : (g : ℕ) (a : ArcShape) (f : Point2 → ℤ) (z : ℤ) → 0 < g → (z *ℤ pos g) ≤ℤ (greatest f (start_of a) (other_points a) +ℤ pos (2 * g + spread a)) →
    z ≤ℤ high_at (pos g) a f
high_held g a f z some h = below_fits z (greatest f (start_of a) (other_points a) +ℤ margin (pos g) a) g some (omega (arith, ints, h))

-- ---- the third axis

toward_held : (a b : ℤ) (q : ℕ) → q ≤ distance a b → (int_min a b ≤ℤ toward a b q) × (toward a b q ≤ℤ int_max a b)
toward_held a b q h = by_lt_z a b
    (λ up. let p : toward a b q ≡ a +ℤ pos q = grind (arith, ints) in
    (omega (arith, ints, clamps, p, up, h), omega (arith, ints, clamps, p, up, h)))
    (λ down. let p : toward a b q ≡ a -ℤ pos q = grind (arith, ints) in
    (omega (arith, ints, clamps, p, down, h), omega (arith, ints, clamps, p, down, h)))

line_held : (n k : ℕ) (a b : ℤ) → k ≤ n → distance a b ≤ n → (int_min a b ≤ℤ line_place n k a b) × (line_place n k a b ≤ℤ int_max a b)
line_held n k a b le room = toward_held a b (steps n k (distance a b)) (steps-within n k (distance a b) le room)

-- ---- all three

space_between : (plane : Plane) (t : Turn) (q : Spot) (h u v w u' v' w' : ℤ) → u ≤ℤ q.u → q.u ≤ℤ u' → v ≤ℤ turned t q.v → turned t q.v ≤ℤ v' →
    w ≤ℤ h → h ≤ℤ w' →
    IsBetween (grid_at plane u v w) (grid_at plane u' v' w') (in_space plane t q h)
space_between XY t q h u v w u' v' w' lu hu lv hv lw hw = record { x_low = lu; x_high = hu; y_low = lv; y_high = hv; z_low = lw; z_high = hw }
space_between ZX t q h u v w u' v' w' lu hu lv hv lw hw = record { x_low = lv; x_high = hv; y_low = lw; y_high = hw; z_low = lu; z_high = hu }
space_between YZ t q h u v w u' v' w' lu hu lv hv lw hw = record { x_low = lw; x_high = hw; y_low = lu; y_high = hu; z_low = lv; z_high = hv }

pub turned_times : (t : Turn) (z : ℤ) (g : ℕ) → turned t z *ℤ pos g ≡ turned t (z *ℤ pos g)
turned_times Counterclockwise z g = refl
turned_times Clockwise z g = neg_times z (pos g)

pub lifted_inside : (g : ℕ) (a : ArcShape) (q : Spot) (n k : ℕ) (low high : ℤ) → 0 < g → IsNearHull a (2 * g + spread a) (laid g a.turn q) →
    low ≡ start_height (pos g) a → high ≡ end_height (pos g) a → k ≤ n → distance low high ≤ n →
    IsIn (swept_box (pos g) a) (in_space a.plane a.turn q (line_place n k low high))
lifted_inside g a q n k low high some near starts ends le room =
    let e = turned_times a.turn q.v g in
    let h = line_held n k low high le room in
    space_between a.plane a.turn q (line_place n k low high) _ _ _ _ _ _
    (low_held g a first_of q.u some near.low_u) (high_held g a first_of q.u some near.high_u)
    (low_held g a second_of (turned a.turn q.v) some (rw e near.low_v)) (high_held g a second_of (turned a.turn q.v) some (rw e near.high_v))
    (rw (← starts, ← ends) h.0) (rw (← starts, ← ends) h.1)
