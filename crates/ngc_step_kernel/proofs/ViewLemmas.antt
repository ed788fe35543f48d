-- An arc relative to its centre: coordinates, and the grid point to which its start is moved.
use Rattle.std.proofs.Common.{◌≡◌, ℕ, ◌+◌, ◌*◌, ◌<◌, ◌≤◌, ℤ, pos, ◌+ℤ◌, ◌-ℤ◌, ◌*ℤ◌, unsigned_abs, to_z, of_z, arith, refl, sym, ◌∙◌, ap}
use Rattle.std.specs.Int.{w128}
use Rattle.std.proofs.lemmas.Int.{ints, unsigned_abs-mul}
use Rattle.std.proofs.lemmas.Nat.{mul-le}
use Rattle.std.proofs.Math.Nat.{mul-le-mul_left, le_of_mul-le-mul_left}
use Rattle.ngc_fixed_length.specs.Rounding.{IsNearest}
use Rattle.ngc_fixed_length.specs.declared.modes.Turn.{Turn}
use Rattle.ngc_fixed_length.specs.declared.modes.Turn.TheVariants.{Clockwise, Counterclockwise}
use Rattle.ngc_fixed_length.specs.declared.points.Point2.{Point2}
use Rattle.ngc_arc_geometry.specs.Shape.{ArcShape, start_of, end_of}
use Rattle.ngc_arc_geometry.specs.Radii.{squared_distance, IsArc}
use Rattle.ngc_arc_geometry.proofs.Squares.{from_squares, square_sum}
use Rattle.ngc_step_kernel.specs.Round.{turned}
use Rattle.ngc_step_kernel.specs.declared.round.Vector2.{Vector2}
use Rattle.ngc_step_kernel.specs.View.{squared, way_between, IsMoved, IsRadius}

abbrev way_of : ℤ → ℤ → Vector2
way_of u v = record { u = u; v = v }

pub way_is : (a b c d : ℤ) → a ≡ c → b ≡ d → way_of a b ≡ way_of c d
way_is a b c d e f = ap (λ x. way_of x b) e ∙ ap (λ y. way_of c y) f

pub first_side : (w : Vector2) (r : ℕ) → squared w ≤ r * r → unsigned_abs w.u ≤ r
first_side w r h = from_squares (unsigned_abs w.u) r (omega (arith, h))

pub second_side : (w : Vector2) (r : ℕ) → squared w ≤ r * r → unsigned_abs w.v ≤ r
second_side w r h = from_squares (unsigned_abs w.v) r (omega (arith, h))

turned_size : (t : Turn) (v : ℤ) → unsigned_abs (turned t v) ≡ unsigned_abs v
turned_size Counterclockwise v = refl
turned_size Clockwise v = omega (arith, ints)

pub squared_is : (t : Turn) (c p : Point2) → squared (way_between t c p) ≡ squared_distance c p
squared_is t c p =
    ap (λ n. unsigned_abs (p.u -ℤ c.u) * unsigned_abs (p.u -ℤ c.u) + n * n) (turned_size t (p.v -ℤ c.v)) ∙ sym (square_sum (p.u -ℤ c.u) (p.v -ℤ c.v))

pub start_radius : (a : ArcShape) → IsArc a → IsRadius (way_between a.turn a.centre (start_of a))
start_radius a arc =
    let e = squared_is a.turn a.centre (start_of a) in
    record { some = omega (arith, e, arc.some_radius); bound = omega (arith, e, arc.radius) }

pub end_radius : (a : ArcShape) → IsArc a → IsRadius (way_between a.turn a.centre (end_of a))
end_radius a arc =
    let e = squared_is a.turn a.centre (end_of a) in
    record { some = omega (arith, e, arc.some_radius); bound = omega (arith, e, arc.radius) }

-- ---- the point to which the start is moved

kept : (a b : ℤ) → unsigned_abs a ≤ 200000000000000000000 → unsigned_abs b ≤ 5000000000000000000 →
    to_z w128 (of_z w128 (to_z w128 (of_z w128 a) +ℤ to_z w128 (of_z w128 b))) ≡ a +ℤ b
kept a b ha hb = omega (arith, ints, ha, hb)

pub record IsMovedSum (c b : ℤ) (s r : ℕ) (x : ℤ) : Type 0 where
  pub is : x ≡ (c *ℤ pos s) +ℤ (b *ℤ pos r)
  pub bound : unsigned_abs x ≤ s * 95000020000
  pub small : unsigned_abs x ≤ 1000000000000000000000000000000000000

within_both : (a b x : ℤ) (m n : ℕ) → x ≡ a +ℤ b → unsigned_abs a ≤ m → unsigned_abs b ≤ n → unsigned_abs x ≤ m + n
within_both a b x m n e ha hb = omega (arith, ints, e, ha, hb)

pub moved_sum : (c b p q : ℤ) (s r : ℕ) → p ≡ c *ℤ pos s → unsigned_abs p ≤ unsigned_abs c * s → q ≡ b *ℤ pos r → unsigned_abs q ≤ unsigned_abs b * r →
    unsigned_abs c ≤ 93000000000 → unsigned_abs b ≤ s → s ≤ 2000020000 → r ≤ 2000020000 →
    IsMovedSum c b s r (to_z w128 (of_z w128 (to_z w128 (of_z w128 p) +ℤ to_z w128 (of_z w128 q))))
moved_sum c b p q s r hp bp hq bq hc hb hs hr =
    let d : unsigned_abs c * s ≤ 93000000000 * s = mul-le (unsigned_abs c) s 93000000000 s hc (omega arith) in
    let e : unsigned_abs b * r ≤ s * 2000020000 = mul-le (unsigned_abs b) r s 2000020000 hb hr in
    let x = to_z w128 (of_z w128 (to_z w128 (of_z w128 p) +ℤ to_z w128 (of_z w128 q))) in
    let k : x ≡ p +ℤ q = kept p q (omega (arith, bp, d, hs)) (omega (arith, bq, e, hs)) in
    let w = within_both p q x (93000000000 * s) (s * 2000020000) k (omega (arith, bp, d)) (omega (arith, bq, e)) in
    record { is = k ∙ rw (hp, hq) refl; bound = omega (arith, w); small = omega (arith, w, hs) }

pub moved_near : (g s r : ℕ) (c b x y p : ℤ) → IsNearest x y p → x ≡ (c *ℤ pos s) +ℤ (b *ℤ pos r) → y ≡ pos (s * g) → IsMoved g s r c b p
moved_near g s r c b x y p near ex ey = rw (ex, ey) at near.near

twice_near : (x y : ℤ) (m n : ℕ) → unsigned_abs x ≤ m → 2 * unsigned_abs (x -ℤ y) ≤ n → 2 * unsigned_abs y ≤ 2 * m + n
twice_near x y m n hx near = omega (arith, ints, hx, near)

pub moved_small : (g s r : ℕ) (c b x p : ℤ) → 0 < s → 500 ≤ g → g ≤ 50000 → IsMovedSum c b s r x → IsMoved g s r c b p → unsigned_abs p ≤ 200000000
moved_small g s r c b x p some least most sum near =
    let e = unsigned_abs-mul p (pos (s * g)) in
    let f : unsigned_abs ((c *ℤ pos s) +ℤ (b *ℤ pos r)) ≤ s * 95000020000 = rw sum.is at sum.bound in
    let a : 2 * unsigned_abs (p *ℤ pos (s * g)) ≤ 2 * (s * 95000020000) + s * g =
    twice_near ((c *ℤ pos s) +ℤ (b *ℤ pos r)) (p *ℤ pos (s * g)) (s * 95000020000) (s * g) f near in
    let d : s * (2 * (unsigned_abs p * g)) ≤ s * (190000040000 + g) = omega (arith, a, e) in
    let h = le_of_mul-le-mul_left d some in
    omega (arith, h, mul-le-mul_left (unsigned_abs p) least)
