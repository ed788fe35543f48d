-- The distance from the centre at which a wheel begins: at the joint, or at the point to which the
-- entry leads.
use Rattle.std.proofs.Common.{◌≡◌, ℕ, ◌+◌, ◌-◌, ◌*◌, ◌<◌, ◌≤◌, inl, inr, ap, arith}
use Rattle.std.specs.Prelude.{Bool, true, false}
use Rattle.std.proofs.Math.Nat.{mul-le-mul_left}
use Rattle.ngc_circle_walk.specs.declared.spoke.Roll.{Roll}
use Rattle.ngc_circle_walk.specs.declared.spoke.Roll.TheVariants.{Outward, Diagonal, Inward, Over}
use Rattle.ngc_circle_walk.specs.declared.spoke.Spoke.{Spoke}
use Rattle.ngc_circle_walk.specs.Bounds.{IsBelow, IsAbove}
use Rattle.ngc_circle_walk.specs.Entering.{IsEntry}
use Rattle.ngc_circle_walk.specs.Wheel.{square, rolled}
use Rattle.ngc_circle_walk.proofs.Rim.{square_le, less_step, over_below, over_above, inward_above, diagonal_above}
use Rattle.ngc_circle_walk.proofs.NearEnd.{IsRim, limit_of}
use Rattle.ngc_circle_walk.proofs.Entry.{begins_diagonal_flat}

-- between the two bounds
pub record IsBound (g high low : ℕ) (s : Spoke) : Type 0 where
  pub below : IsBelow g high s
  pub above : IsAbove g low s

-- the joint is near the circle of radius r; if the start is flat, the joint is flat, and if the
-- start is steep, the joint is steep to within a step
pub record IsNearJoint (g r v : ℕ) (steep : Bool) (j : Spoke) : Type 0 where
  pub high : 12 * square j.x j.y ≤ 12 * (r * r) + 17 * (r * g) + 6 * (g * g)
  pub low : v * v ≤ square j.x j.y
  pub flat : steep ≡ false → g ≤ j.x → j.y ≤ j.x
  pub steep_but : steep ≡ true → g ≤ j.x → j.x ≤ j.y + g

-- ---- circles of at least two and a quarter steps: within 11/10 of a step outward

pub record IsSmallSize (g r h l m v : ℕ) : Type 0 where
  pub step : 500 ≤ g
  pub least : 9 * g ≤ 4 * r
  pub h_low : 2 * g ≤ 5 * h + 4
  pub h_high : 5 * h ≤ 2 * g
  pub l_low : 11 * g ≤ 10 * l + 9
  pub l_high : 10 * l ≤ 11 * g
  pub m_low : 4 * g ≤ 5 * m + 4
  pub m_high : 5 * m ≤ 4 * g
  pub inner : v + m ≡ r

-- a point a little farther out than the joint may be is within the bound
pub within_small : (g r h l m v n : ℕ) → IsSmallSize g r h l m v → 12 * n ≤ 12 * (r * r) + 17 * (r * g) + 30 * (g * g) → n ≤ (r + l) * (r + l)
within_small g r h l m v n s h' =
    let a = mul-le-mul_left r s.l_low in
    let b = mul-le-mul_left g s.least in
    let c = mul-le-mul_left l s.l_low in
    let d = mul-le-mul_left g s.l_low in
    let e = mul-le-mul_left r s.step in
    let f = mul-le-mul_left g s.step in
    omega (arith, h', a, b, c, d, e, f, s.step)

pub more_limit : (g r h l m v : ℕ) → IsSmallSize g r h l m v → (r + h) * (r + h) ≤ (r + l) * (r + l)
more_limit g r h l m v s = square_le (r + h) (r + l) (omega (arith, s.h_high, s.l_low, s.step))

pub less_limit : (g r h l m v : ℕ) → IsSmallSize g r h l m v → (v + g) * (v + g) ≤ (r + h) * (r + h)
less_limit g r h l m v s = square_le (v + g) (r + h) (omega (arith, s.inner, s.h_low, s.m_low, s.step))

pub twice_low : (g r h l m v : ℕ) → IsSmallSize g r h l m v → 2 * (g * g) ≤ v * v
twice_low g r h l m v s =
    let a = square_le (29 * g) (20 * v) (omega (arith, s.least, s.inner, s.m_high)) in
    omega (arith, a)

pub twice_high : (g r h l m v : ℕ) → IsSmallSize g r h l m v → 2 * (g * g) ≤ (r + l) * (r + l)
twice_high g r h l m v s = let a = square_le (2 * g) (r + l) (omega (arith, s.least)) in omega (arith, a)

by_all : (g high low : ℕ) (s : Spoke) → square s.x s.y ≤ high → low * low ≤ square s.x s.y → IsBound g high low s
by_all g high low s a b = record {
  below = record { all = omega (arith, a); by_axis = λ _. a };
  above = record { all = omega (arith, b); by_axis = λ _. b };
}

pub small_stands : (g r h l m v : ℕ) (j : Spoke) → IsSmallSize g r h l m v → 12 * square j.x j.y ≤ 12 * (r * r) + 17 * (r * g) + 6 * (g * g) →
    v * v ≤ square j.x j.y → IsBound g ((r + l) * (r + l)) v j
small_stands g r h l m v j s high low = by_all g ((r + l) * (r + l)) v j (within_small g r h l m v (square j.x j.y) s (omega (arith, high))) low

over_axis_high : (g high x y : ℕ) → x < g → y < g → 2 * (g * g) ≤ high → square y (g - x) ≤ high
over_axis_high g high x y hx hy room =
    let a = square_le (g - x) g (omega arith) in
    let b = square_le y g (omega (arith, hy)) in
    omega (arith, a, b, room)

below_step : (g x : ℕ) → x < g → x * x + g ≤ g * g
below_step g x h =
    let le : x ≤ g = omega (arith, h) in
    let more : x + 1 ≤ g = omega (arith, h) in
    omega (arith, mul-le-mul_left x le, mul-le-mul_left g more)

over_axis_low : (g v x y : ℕ) → x < g → y < g → 2 * (g * g) ≤ v * v → v * v ≤ square x y → v * v ≤ square y (g - x)
over_axis_low g v x y hx hy room above =
    let a = below_step g x hx in
    let b = below_step g y hy in
    absurd (omega (arith, a, b, room, above, hx))

enters_over : (g high v : ℕ) (j : Spoke) → j.x < g → 2 * (g * g) ≤ high → 2 * (g * g) ≤ v * v → square j.x j.y ≤ high → v * v ≤ square j.x j.y →
    IsBound g high v (rolled g Over j)
enters_over g high v j near room low below above = record {
  below = record { all = over_below g high j.x j.y near below; by_axis = λ less. over_axis_high g high j.x j.y near less room };
  above = record { all = over_above g v j.x j.y near above; by_axis = λ less. over_axis_low g v j.x j.y near less low above };
}

grows : (v x y g : ℕ) → v * v ≤ square x y → v * v ≤ square x (y + g)
grows v x y g h = omega (arith, h)

steep_grows : (v t y g : ℕ) → v * v ≤ square (t + g) y → t ≤ y → v * v ≤ square t (y + g)
steep_grows v t y g h le = let a = mul-le-mul_left g le in omega (arith, h, a)

pub small_enters : (g r h l m v : ℕ) (steep : Bool) (j : Spoke) (roll : Roll) → IsSmallSize g r h l m v → IsNearJoint g r v steep j →
    IsEntry g ((r + h) * (r + h)) steep j roll →
    IsBound g ((r + l) * (r + l)) v (rolled g roll j)
small_enters g r h l m v steep j Over s near entry =
    enters_over g ((r + l) * (r + l)) v j entry (twice_high g r h l m v s) (twice_low g r h l m v s)
    (within_small g r h l m v (square j.x j.y) s (omega (arith, near.high))) near.low
small_enters g r h l m v steep j Outward s near entry =
    by_all g ((r + l) * (r + l)) v (rolled g Outward j) (omega (arith, entry.2, more_limit g r h l m v s)) (grows v j.x j.y g near.low)
small_enters g r h l m v steep j Diagonal s near entry =
    let t = j.x - g in
    let e : j.x ≡ t + g = omega (arith, entry.0) in
    elim entry.1 [
      | inl up ↦ (
          let le : t ≤ j.y = omega (arith, near.steep_but up.0 entry.0, e) in
          let low : v * v ≤ square (t + g) j.y = rw e at near.low in
          by_all g ((r + l) * (r + l)) v (rolled g Diagonal j) (omega (arith, up.1, more_limit g r h l m v s)) (steep_grows v t j.y g low le))
      | inr out ↦ (
          let flat = mul-le-mul_left g (near.flat out.0 entry.0) in
          let xx = less_step g j.x t e in
          let gx : g * j.x ≡ g * (t + g) = ap (λ z. g * z) e in
          let high : 12 * square t (j.y + g) ≤ 12 * (r * r) + 17 * (r * g) + 30 * (g * g) = omega (arith, near.high, flat, xx, gx) in
          by_all g ((r + l) * (r + l)) v (rolled g Diagonal j) (within_small g r h l m v (square t (j.y + g)) s high)
          (diagonal_above g v j.x j.y t e (omega (arith, out.1, less_limit g r h l m v s))))
    ]
small_enters g r h l m v steep j Inward s near entry =
    let t = j.x - g in
    let e : j.x ≡ t + g = omega (arith, entry.1) in
    let xx = less_step g j.x t e in
    let high = within_small g r h l m v (square j.x j.y) s (omega (arith, near.high)) in
    by_all g ((r + l) * (r + l)) v (rolled g Inward j) (omega (arith, high, xx)) (inward_above g v t j.y (omega (arith, entry.2, less_limit g r h l m v s)))

-- ---- circles of at least eight steps: within four fifths of a step outward and inward

within_large : (g q h k l v n : ℕ) → IsRim g q h k l v → 12 * n ≤ 12 * ((q + 1) * (q + 1)) + 17 * ((q + 1) * g) + 6 * (g * g) → n ≤ limit_of q l
within_large g q h k l v n s h' =
    let a = mul-le-mul_left (q + 1) s.l_low in
    let b = mul-le-mul_left g s.far in
    let c = mul-le-mul_left (q + 1) s.step in
    omega (arith, h', a, b, c)

rim_limit : (g q h k l v : ℕ) → IsRim g q h k l v → limit_of q h ≤ limit_of q l
rim_limit g q h k l v s = square_le (q + 1 + h) (q + 1 + l) (omega (arith, s.h_high, s.l_low, s.step))

rim_low : (g q h k l v : ℕ) → IsRim g q h k l v → (v + g) * (v + g) ≤ limit_of q h
rim_low g q h k l v s = square_le (v + g) (q + 1 + h) (omega (arith, s.inner, s.h_low, s.l_low, s.step))

twice_rim : (g q h k l v : ℕ) → IsRim g q h k l v → (2 * (g * g) ≤ limit_of q l) × (2 * (g * g) ≤ v * v)
twice_rim g q h k l v s =
    let a = square_le (2 * g) (q + 1 + l) (omega (arith, s.far)) in
    let b = square_le (2 * g) v (omega (arith, s.far, s.inner, s.l_high)) in
    (omega (arith, a), omega (arith, b))

pub large_stands : (g q h k l v : ℕ) (j : Spoke) → IsRim g q h k l v → 12 * square j.x j.y ≤ 12 * ((q + 1) * (q + 1)) + 17 * ((q + 1) * g) + 6 * (g * g) →
    v * v ≤ square j.x j.y → IsBound g (limit_of q l) v j
large_stands g q h k l v j s high low = by_all g (limit_of q l) v j (within_large g q h k l v (square j.x j.y) s high) low

pub large_enters : (g q h k l v : ℕ) (steep : Bool) (j : Spoke) (roll : Roll) → IsRim g q h k l v → IsNearJoint g (q + 1) v steep j →
    IsEntry g (limit_of q h) steep j roll →
    IsBound g (limit_of q l) v (rolled g roll j)
large_enters g q h k l v steep j Over s near entry =
    let twice = twice_rim g q h k l v s in
    enters_over g (limit_of q l) v j entry twice.0 twice.1 (within_large g q h k l v (square j.x j.y) s near.high) near.low
large_enters g q h k l v steep j Outward s near entry =
    by_all g (limit_of q l) v (rolled g Outward j) (omega (arith, entry.2, rim_limit g q h k l v s)) (grows v j.x j.y g near.low)
large_enters g q h k l v steep j Diagonal s near entry =
    let t = j.x - g in
    let e : j.x ≡ t + g = omega (arith, entry.0) in
    elim entry.1 [
      | inl up ↦ (
          let le : t ≤ j.y = omega (arith, near.steep_but up.0 entry.0, e) in
          let low : v * v ≤ square (t + g) j.y = rw e at near.low in
          by_all g (limit_of q l) v (rolled g Diagonal j) (omega (arith, up.1, rim_limit g q h k l v s)) (steep_grows v t j.y g low le))
      | inr out ↦ (
          let flat = near.flat out.0 entry.0 in
          let above = diagonal_above g v j.x j.y t e (omega (arith, out.1, rim_low g q h k l v s)) in
          let all = begins_diagonal_flat g q h k l v j.x j.y t s e flat near.high in
          record {
            below = record {
              all = all;
              by_axis = λ less. (
                  let a = square_le j.x (2 * g) (omega (arith, less, e)) in
                  let b = square_le j.y (2 * g) (omega (arith, flat, less, e)) in
                  let c = square_le (7 * g) v (omega (arith, s.far, s.inner, s.l_high)) in
                  let some = mul-le-mul_left g s.step in
                  absurd (omega (arith, a, b, c, near.low, some, s.step)));
            };
            above = record { all = omega (arith, above); by_axis = λ _. above };
          })
    ]
large_enters g q h k l v steep j Inward s near entry =
    let t = j.x - g in
    let e : j.x ≡ t + g = omega (arith, entry.1) in
    let xx = less_step g j.x t e in
    let high = within_large g q h k l v (square j.x j.y) s near.high in
    by_all g (limit_of q l) v (rolled g Inward j) (omega (arith, high, xx)) (inward_above g v t j.y (omega (arith, entry.2, rim_low g q h k l v s)))
