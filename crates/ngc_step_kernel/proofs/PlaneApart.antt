-- The distances between points of an arc's plane, also in the arc's view, and the triangle
-- inequality in squares.
use Rattle.std.proofs.Common.{◌≡◌, ℕ, ◌+◌, ◌-◌, ◌*◌, ◌≤◌, inl, inr, ℤ, pos, ◌+ℤ◌, ◌-ℤ◌, ◌*ℤ◌, unsigned_abs, arith, ap, refl, ◌∙◌}
use Rattle.std.proofs.lemmas.Bool.{cases_lt}
use Rattle.std.proofs.lemmas.Int.{ints}
use Rattle.std.proofs.lemmas.Nat.{mul-le}
use borrow.Author.Differences.{neg_is}
use Rattle.ngc_fixed_length.specs.Grid.{distance}
use Rattle.ngc_fixed_length.specs.declared.modes.Turn.{Turn}
use Rattle.ngc_fixed_length.specs.declared.modes.Turn.TheVariants.{Counterclockwise, Clockwise}
use Rattle.ngc_fixed_length.specs.declared.points.Point2.{Point2}
use Rattle.ngc_circle_walk.proofs.Rays.{from_squares, square_le, squares_apart}
use Rattle.ngc_arc_geometry.specs.Shape.{ArcShape, start_of, end_of}
use Rattle.ngc_arc_geometry.specs.Radii.{squared_distance}
use Rattle.ngc_arc_geometry.proofs.Squares.{square_sum}
use Rattle.ngc_step_kernel.specs.declared.round.Vector2.{Vector2}
use Rattle.ngc_step_kernel.specs.declared.spot.Spot.{Spot}
use Rattle.ngc_step_kernel.specs.PlaneCourse.{laid}
use Rattle.ngc_step_kernel.specs.Round.{turned}
use Rattle.ngc_step_kernel.specs.View.{squared, view_of, way_between, way_from}

-- the squared distance from the end of a vector from the centre to a grid point
abbrev pub apart_squared : ℕ → Vector2 → Vector2 → Spot → ℕ
apart_squared g c w p =
    distance (c.u +ℤ w.u) (p.u *ℤ pos g) * distance (c.u +ℤ w.u) (p.u *ℤ pos g) + distance (c.v +ℤ w.v) (p.v *ℤ pos g) * distance (c.v +ℤ w.v) (p.v *ℤ pos g)

two_squares : (p q : ℤ) (m n : ℕ) → unsigned_abs p ≡ m → unsigned_abs q ≡ n → unsigned_abs ((p *ℤ p) +ℤ (q *ℤ q)) ≡ m * m + n * n
two_squares p q m n hp hq = square_sum p q ∙ ap (λ t. t * t + unsigned_abs q * unsigned_abs q) hp ∙ ap (λ t. m * m + t * t) hq

turned_off : (t : Turn) (c q z : ℤ) → unsigned_abs (turned t z -ℤ q) ≡ distance (turned t c +ℤ turned t (q -ℤ c)) z
turned_off Counterclockwise c q z = omega (arith, ints)
turned_off Clockwise c q z = omega (arith, ints, neg_is c, neg_is (q -ℤ c), neg_is z)

turned_from : (t : Turn) (c z : ℤ) → unsigned_abs (turned t z -ℤ c) ≡ unsigned_abs (z -ℤ turned t c)
turned_from Counterclockwise c z = refl
turned_from Clockwise c z = omega (arith, ints, neg_is c, neg_is z)

straight_off : (c q z : ℤ) → unsigned_abs (z -ℤ q) ≡ distance (c +ℤ (q -ℤ c)) z
straight_off c q z = omega (arith, ints)

point_apart : (g : ℕ) (t : Turn) (c q : Point2) (p : Spot) → squared_distance q (laid g t p)
    ≡ apart_squared g (record { u = c.u; v = turned t c.v }) (way_between t c q) p
point_apart g t c q p =
    let x = p.u *ℤ pos g in
    let y = p.v *ℤ pos g in
    two_squares (x -ℤ q.u) (turned t y -ℤ q.v) (distance (c.u +ℤ (q.u -ℤ c.u)) x) (distance (turned t c.v +ℤ turned t (q.v -ℤ c.v)) y) (straight_off c.u q.u x)
    (turned_off t c.v q.v y)

-- from the arc's start to a grid point, from its end, and from its centre
pub start_apart : (a : ArcShape) (g : ℕ) (p : Spot) → squared_distance (start_of a) (laid g a.turn p) ≡ apart_squared g (view_of a).centre (view_of a).start p
start_apart a g p = point_apart g a.turn a.centre (start_of a) p

pub end_apart : (a : ArcShape) (g : ℕ) (p : Spot) → squared_distance (end_of a) (laid g a.turn p) ≡ apart_squared g (view_of a).centre (view_of a).end p
end_apart a g p = point_apart g a.turn a.centre (end_of a) p

pub centre_apart : (a : ArcShape) (g : ℕ) (p : Spot) → squared_distance a.centre (laid g a.turn p) ≡ squared (way_from g (view_of a).centre p)
centre_apart a g p =
    let x = p.u *ℤ pos g in
    let y = p.v *ℤ pos g in
    two_squares (x -ℤ a.centre.u) (turned a.turn y -ℤ a.centre.v) (unsigned_abs (x -ℤ a.centre.u)) (unsigned_abs (y -ℤ turned a.turn a.centre.v)) refl
    (turned_from a.turn a.centre.v y)

-- ---- the triangle inequality, for numbers

crossed : (p q x y m d : ℕ) → p * p + q * q ≤ m * m → x * x + y * y ≤ d * d → p * x + q * y ≤ m * d
crossed p q x y m d hm hd =
    let a = squares_apart (p * y) (q * x) in
    let b = mul-le (p * p + q * q) (x * x + y * y) (m * m) (d * d) hm hd in
    from_squares (p * x + q * y) (m * d) (omega (arith, a, b))

-- a vector that is at most the sum of two others on each axis is at most as long as the two
-- together
pub sides_above : (p q x y u v m d : ℕ) → u ≤ p + x → v ≤ q + y → p * p + q * q ≤ m * m → x * x + y * y ≤ d * d → u * u + v * v ≤ (m + d) * (m + d)
sides_above p q x y u v m d hu hv hm hd =
    let a = square_le u (p + x) hu in
    let b = square_le v (q + y) hv in
    let c = crossed p q x y m d hm hd in
    omega (arith, a, b, c, hm, hd)

-- if a vector plus another is at least a third on each axis, it is at least as long as the
-- difference of their lengths
pub sides_below : (p q x y u v m d : ℕ) → p ≤ u + x → q ≤ v + y → m * m ≤ p * p + q * q → x * x + y * y ≤ d * d → (m - d) * (m - d) ≤ u * u + v * v
sides_below p q x y u v m d hp hq hm hd =
    elim (cases_lt (u * u + v * v) ((m - d) * (m - d))) [
      | inr fine ↦ fine
      | inl less ↦ elim (cases_lt m d) [
        | inl none ↦ (let e : m - d ≡ 0 = omega (arith, none) in let f : (m - d) * (m - d) ≡ 0 = ap (λ t. t * t) e in absurd (omega (arith, less, f)))
        | inr some ↦ (
            let w = m - d in
            let e : w + d ≡ m = omega (arith, some) in
            let f : (w + d) * (w + d) ≡ m * m = ap (λ t. t * t) e in
            let a = square_le p (u + x) hp in
            let b = square_le q (v + y) hq in
            let c = crossed u v x y w d (omega (arith, less)) hd in
            absurd (omega (arith, a, b, c, f, less, hm, hd)))
      ]
    ]

-- ---- for points of the plane

apart_on : (c q p : ℤ) → (unsigned_abs (p -ℤ c) ≤ unsigned_abs (q -ℤ c) + unsigned_abs (p -ℤ q)) ×
    (unsigned_abs (q -ℤ c) ≤ unsigned_abs (p -ℤ c) + unsigned_abs (p -ℤ q))
apart_on c q p = (omega (arith, ints), omega (arith, ints))

apart_is : (p q : Point2) → squared_distance p q ≡ unsigned_abs (q.u -ℤ p.u) * unsigned_abs (q.u -ℤ p.u) + unsigned_abs (q.v -ℤ p.v) * unsigned_abs (q.v -ℤ p.v)
apart_is p q = square_sum (q.u -ℤ p.u) (q.v -ℤ p.v)

pub apart_back : (p q : Point2) → squared_distance p q ≡ squared_distance q p
apart_back p q =
    two_squares (q.u -ℤ p.u) (q.v -ℤ p.v) (unsigned_abs (p.u -ℤ q.u)) (unsigned_abs (p.v -ℤ q.v)) (omega (arith, ints)) (omega (arith, ints))
    ∙ omega (arith, apart_is q p)

pub plane_above : (c q p : Point2) (m d : ℕ) → squared_distance c q ≤ m * m → squared_distance q p ≤ d * d → squared_distance c p ≤ (m + d) * (m + d)
plane_above c q p m d hm hd =
    let u = apart_on c.u q.u p.u in
    let v = apart_on c.v q.v p.v in
    let h = sides_above (unsigned_abs (q.u -ℤ c.u)) (unsigned_abs (q.v -ℤ c.v)) (unsigned_abs (p.u -ℤ q.u)) (unsigned_abs (p.v -ℤ q.v))
    (unsigned_abs (p.u -ℤ c.u)) (unsigned_abs (p.v -ℤ c.v)) m d u.0 v.0 (omega (arith, apart_is c q, hm)) (omega (arith, apart_is q p, hd)) in
    omega (arith, apart_is c p, h)

pub plane_below : (c q p : Point2) (m d : ℕ) → m * m ≤ squared_distance c q → squared_distance q p ≤ d * d → (m - d) * (m - d) ≤ squared_distance c p
plane_below c q p m d hm hd =
    let u = apart_on c.u q.u p.u in
    let v = apart_on c.v q.v p.v in
    let h = sides_below (unsigned_abs (q.u -ℤ c.u)) (unsigned_abs (q.v -ℤ c.v)) (unsigned_abs (p.u -ℤ q.u)) (unsigned_abs (p.v -ℤ q.v))
    (unsigned_abs (p.u -ℤ c.u)) (unsigned_abs (p.v -ℤ c.v)) m d u.1 v.1 (omega (arith, apart_is c q, hm)) (omega (arith, apart_is q p, hd)) in
    omega (arith, apart_is c p, h)
