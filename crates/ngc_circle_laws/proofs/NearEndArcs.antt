-- An arc whose end's ray is reached before the wheel moves: its joint is near its end.
use Rattle.std.proofs.Common.{◌≡◌, ℕ, ◌+◌, ◌-◌, ◌*◌, ◌<◌, ◌≤◌, pos, ◌<ℤ◌, ◌⊎◌, inl, inr, sym, ap, arith}
use Rattle.std.specs.Prelude.{Bool}
use Rattle.std.proofs.lemmas.Bool.{cases_lt}
use Rattle.std.proofs.lemmas.Int.{ints}
use Rattle.std.proofs.Math.Nat.{mul-le-mul_left, le_of_mul-le-mul_left}
use Rattle.ngc_circle_walk.specs.declared.spoke.Roll.{Roll}
use Rattle.ngc_circle_walk.specs.declared.spoke.Roll.TheVariants.{Outward, Diagonal, Inward, Over}
use Rattle.ngc_circle_walk.specs.declared.spoke.Spoke.{Spoke}
use Rattle.ngc_circle_walk.specs.Entering.{IsEntry}
use Rattle.ngc_circle_walk.specs.Wheel.{square, rolled}
use Rattle.ngc_circle_walk.proofs.WheelStart.{IsNearJoint}
use Rattle.ngc_circle_walk.proofs.JointMoves.{IsJoint}
use Rattle.ngc_circle_walk.proofs.NearEnd.{IsRim, IsRay, limit_of}
use Rattle.ngc_circle_walk.proofs.Rays.{square_le, from_squares, beyond, past_in, before_out}
use Rattle.ngc_circle_walk.proofs.Rim.{less_step, inward_above, diagonal_above}
use Rattle.ngc_circle_walk.proofs.Short.{short_steep, short_flat}
use Rattle.ngc_fixed_length.specs.Places.{cross}
use Rattle.ngc_circle_walk.specs.Around.{way_to}
use Rattle.ngc_circle_walk.specs.Quadrants.{following}
use Rattle.ngc_circle_laws.proofs.FirstPoints.{IsJoined, into, from, small_across}
use Rattle.ngc_circle_laws.proofs.Circuit.{gap}
use Rattle.ngc_circle_laws.proofs.JointQuadrant.{IsAcross, moved_same, moved_next, moved_before}
use Rattle.ngc_circle_laws.proofs.ReachedEndRays.{IsReached, SomeWay, settled_stands, settled_enters}

-- ---- the end e = (ex, ey) is past the ray of the start b = (bx, by), which is moved to the radius r

start_first : (p r bx by ex ey : ℕ) → p * p ≤ bx * bx + by * by → ex * ex + ey * ey ≤ r * r → by * ex ≤ bx * ey → p * ex ≤ r * bx
start_first p r bx by ex ey round great past =
    let a = beyond ex ey bx by (omega (arith, past)) in
    let b = mul-le-mul_left (ex * ex) round in
    let c = mul-le-mul_left (bx * bx) great in
    from_squares (p * ex) (r * bx) (omega (arith, a, b, c))

-- along the first axis it is not far ahead of the joint's x
pub along_first : (g p r c x bx by ex ey : ℕ) → IsJoint g (p + 1) r x bx → p * p ≤ bx * bx + by * by → ex * ex + ey * ey ≤ r * r → by * ex ≤ bx * ey →
    r ≤ c * (p + 1) → 2 * ex ≤ 2 * x + g + 2 * c
along_first g p r c x bx by ex ey j round great past near =
    let a = start_first p r bx by ex ey round great past in
    let low : ex ≤ r = from_squares ex r (omega (arith, great)) in
    let d : (p + 1) * (2 * ex) ≤ (p + 1) * (2 * x + g + 2 * c) = omega (arith, a, low, j.down, near) in
    le_of_mul-le-mul_left d (omega arith)

-- nor if the joint is y past the half axis
pub along_across : (g p r c y bx by ex ey : ℕ) → IsAcross g (p + 1) r bx y → p * p ≤ bx * bx + by * by → ex * ex + ey * ey ≤ r * r → by * ex ≤ bx * ey →
    r ≤ c * (p + 1) → 2 * (ex + y) ≤ g + 2 * c
along_across g p r c y bx by ex ey j round great past near =
    let a = start_first p r bx by ex ey round great past in
    let low : ex ≤ r = from_squares ex r (omega (arith, great)) in
    let d : (p + 1) * (2 * (ex + y)) ≤ (p + 1) * (g + 2 * c) = omega (arith, a, low, j, near) in
    le_of_mul-le-mul_left d (omega arith)

-- and along the second it is not far short of its y
pub along_second : (g p q r d y bx by ex ey : ℕ) → IsJoint g (p + 1) r y by → bx * bx + by * by ≤ (p + 1) * (p + 1) → q * q ≤ ex * ex + ey * ey →
    by * ex ≤ bx * ey → r ≤ q + d → 2 * y ≤ 2 * ey + g + 2 * d
along_second g p q r d y bx by ex ey j round small past near =
    let s = p + 1 in
    let a = beyond by bx ey ex past in
    let b = mul-le-mul_left (by * by) small in
    let c = mul-le-mul_left (ey * ey) round in
    let e = from_squares (q * by) (s * ey) (omega (arith, a, b, c)) in
    let f = mul-le-mul_left by near in
    let low : by ≤ s = from_squares by s (omega (arith, round)) in
    let i = mul-le-mul_left d low in
    let k : s * (2 * y) ≤ s * (2 * ey + g + 2 * d) = omega (arith, e, f, i, j.up) in
    le_of_mul-le-mul_left k (omega arith)

-- the joint is at most half a step beyond the radius on each axis
pub joint_far : (g p r y bx by : ℕ) → IsJoint g (p + 1) r y by → bx * bx + by * by ≤ (p + 1) * (p + 1) → 2 * y ≤ 2 * r + g
joint_far g p r y bx by j round =
    let low : by ≤ p + 1 = from_squares by (p + 1) (omega (arith, round)) in
    let a = mul-le-mul_left r low in
    let d : (p + 1) * (2 * y) ≤ (p + 1) * (2 * r + g) = omega (arith, a, j.up) in
    le_of_mul-le-mul_left d (omega arith)

-- past a ray and farther along x, a point is at least as far along y
pub not_both : (x y ex ey : ℕ) → x * ey ≤ y * ex → ex < x → ey ≤ y
not_both x y ex ey past more =
    elim (cases_lt y ey) [
      | inr fine ↦ fine
      | inl less ↦ (
          let a = mul-le-mul_left ey (let k : ex + 1 ≤ x = omega (arith, more) in k) in
          let b = mul-le-mul_left ex (let k : y + 1 ≤ ey = omega (arith, less) in k) in
          absurd (omega (arith, a, b, past, less)))
    ]

-- ---- circles of at least eight steps

-- distances along both axes of less than 37/20 of a step, one of them at most 21/20
pub record IsPair (g m n : ℕ) : Type 0 where
  pub first : 20 * m < 37 * g
  pub second : 20 * n < 37 * g
  pub one : (20 * m ≤ 21 * g) ⊎ (20 * n ≤ 21 * g)

-- the wheel's first point (fx, fy) is past the end's ray, and at most a move from the joint (x, y)
pub here_pair : (g x y fx fy ex ey : ℕ) → 500 ≤ g → x ≤ fx + g → fy ≤ y + g → fx * ey ≤ fy * ex → 20 * x < 20 * ex + 37 * g → 20 * ey < 20 * y + 37 * g →
    2 * ex ≤ 2 * x + g + 40 → 2 * y ≤ 2 * ey + g + 2 → IsPair g (gap x ex) (gap y ey)
here_pair g x y fx fy ex ey step back up past ahead_x ahead_y behind_x behind_y = record {
  first = omega (arith, ints, step, ahead_x, behind_x);
  second = omega (arith, ints, step, ahead_y, behind_y);
  one = elim (cases_lt (ex + g) x) [
    | inr near ↦ inl (omega (arith, ints, step, near, behind_x))
    | inl far ↦ (let a = not_both fx fy ex ey past (omega (arith, far, back)) in inr (omega (arith, ints, step, a, up, behind_y)))
  ];
}

rim_past : (g q h k l v x y ex ey : ℕ) → IsRim g q h k l v → IsRay q ex ey → square x y ≤ limit_of q l → x * ey ≤ y * ex → x ≤ ex + l + 1
rim_past g q h k l v x y ex ey r ray below past =
    let t : ex * ex ≤ (q + 1) * (q + 1) = omega (arith, ray.great) in
    let u = from_squares ex (q + 1) t in
    past_in x y ex ey q l past below ray.small u (omega (arith, r.far, r.l_high, r.step))

rim_before : (g q h k l v x y ex ey : ℕ) → IsRim g q h k l v → IsRay q ex ey → v * v ≤ square x y → x * ey ≤ y * ex → ey ≤ y + l
rim_before g q h k l v x y ex ey r ray above past =
    let a : (q + 1) * (q + 1) ≡ (v + l) * (v + l) = ap (λ t. t * t) (sym r.inner) in
    before_out y x ey ex v l (omega (arith, past)) (omega (arith, above)) (omega (arith, ray.great, a)) (omega (arith, r.inner, r.far, r.l_high, r.step))

joint_within : (g q h k l v n : ℕ) → IsRim g q h k l v → 12 * n ≤ 12 * ((q + 1) * (q + 1)) + 17 * ((q + 1) * g) + 6 * (g * g) → n ≤ limit_of q l
joint_within g q h k l v n s h' =
    let a = mul-le-mul_left (q + 1) s.l_low in
    let b = mul-le-mul_left g s.far in
    let c = mul-le-mul_left (q + 1) s.step in
    omega (arith, h', a, b, c)

limits : (g q h k l v : ℕ) → IsRim g q h k l v → (limit_of q h ≤ limit_of q l) × ((v + g) * (v + g) ≤ limit_of q h)
limits g q h k l v s = (
  square_le (q + 1 + h) (q + 1 + l) (omega (arith, s.h_high, s.l_low, s.step)),
  square_le (v + g) (q + 1 + h) (omega (arith, s.inner, s.h_low, s.l_low, s.step)),
)

-- joint, first point and end are in the start's quadrant: the wheel begins at the joint
pub stands_here : (g q h k l v ex ey : ℕ) (steep : Bool) (j : Spoke) → IsRim g q h k l v → IsNearJoint g (q + 1) v steep j → IsRay q ex ey →
    j.x * ey ≤ j.y * ex →
    2 * ex ≤ 2 * j.x + g + 40 → 2 * j.y ≤ 2 * ey + g + 2 → IsPair g (gap j.x ex) (gap j.y ey)
stands_here g q h k l v ex ey steep j r near ray past first second =
    let a = rim_past g q h k l v j.x j.y ex ey r ray (joint_within g q h k l v (square j.x j.y) r near.high) past in
    let b = rim_before g q h k l v j.x j.y ex ey r ray near.low past in
    here_pair g j.x j.y j.x j.y ex ey r.step (omega arith) (omega arith) past (omega (arith, a, r.l_high, r.step))
    (omega (arith, b, r.l_high, r.step)) first second

-- or at the point to which a move leads
pub rolls_here : (g q h k l v ex ey : ℕ) (steep : Bool) (j : Spoke) (roll : Roll) → IsRim g q h k l v → IsNearJoint g (q + 1) v steep j → IsRay q ex ey →
    g ≤ j.x → 0 < ex → IsEntry g (limit_of q h) steep j roll →
    (rolled g roll j).x * ey ≤ (rolled g roll j).y * ex → 2 * ex ≤ 2 * j.x + g + 40 → 2 * j.y ≤ 2 * ey + g + 2 → IsPair g (gap j.x ex) (gap j.y ey)
rolls_here g q h k l v ex ey steep j Over r near ray inside some entry past first second = absurd (omega (arith, entry, inside))
rolls_here g q h k l v ex ey steep j Outward r near ray inside some entry past first second =
    let a = rim_past g q h k l v j.x (j.y + g) ex ey r ray (omega (arith, entry.2, limits g q h k l v r)) past in
    let b = rim_before g q h k l v j.x (j.y + g) ex ey r ray (omega (arith, near.low)) past in
    here_pair g j.x j.y j.x (j.y + g) ex ey r.step (omega arith) (omega arith) past (omega (arith, a, r.l_high, r.step))
    (omega (arith, b, r.l_high, r.step)) first second
rolls_here g q h k l v ex ey steep j Diagonal r near ray inside some entry past first second =
    let t = j.x - g in
    let e : j.x ≡ t + g = omega (arith, inside) in
    elim entry.1 [
      | inl up ↦ (
          let a = rim_past g q h k l v t (j.y + g) ex ey r ray (omega (arith, up.1, limits g q h k l v r)) past in
          let i : (q + 1) * (q + 1) ≡ (v + l) * (v + l) = ap (λ z. z * z) (sym r.inner) in
          let b = short_steep g t j.x j.y ex ey v l e (near.steep_but up.0 inside) near.low past (omega (arith, ray.great, i))
          (omega (arith, r.inner, r.far, r.l_high, r.step)) in
          here_pair g j.x j.y t (j.y + g) ex ey r.step (omega (arith, e)) (omega arith) past (omega (arith, a, e, r.l_high, r.step))
          (omega (arith, b, r.l_high, r.step)) first second)
      | inr out ↦ (
          let a = short_flat g q t j.x j.y ex ey r.step r.far e (near.flat out.0 inside) near.high past ray some in
          let lim = limits g q h k l v r in
          let b = rim_before g q h k l v t (j.y + g) ex ey r ray (diagonal_above g v j.x j.y t e (omega (arith, out.1, lim))) past in
          here_pair g j.x j.y t (j.y + g) ex ey r.step (omega (arith, e)) (omega arith) past (omega (arith, a))
          (omega (arith, b, r.l_high, r.step)) first second)
    ]
rolls_here g q h k l v ex ey steep j Inward r near ray inside some entry past first second =
    let t = j.x - g in
    let e : j.x ≡ t + g = omega (arith, inside) in
    let xx = less_step g j.x t e in
    let lim = limits g q h k l v r in
    let high = joint_within g q h k l v (square j.x j.y) r near.high in
    let a = rim_past g q h k l v t j.y ex ey r ray (omega (arith, high, xx)) past in
    let b = rim_before g q h k l v t j.y ex ey r ray (inward_above g v t j.y (omega (arith, entry.2, lim))) past in
    here_pair g j.x j.y t j.y ex ey r.step (omega (arith, e)) (omega arith) past (omega (arith, a, e, r.l_high, r.step))
    (omega (arith, b, r.l_high, r.step)) first second

-- ---- beside a half axis

-- less than a step from it, a point is almost as far along it as from the centre
beside_far : (g q h k l v x y : ℕ) → IsRim g q h k l v → v * v ≤ square x y → x ≤ g → 10 * (q + 1) ≤ 10 * y + 9 * g
beside_far g q h k l v x y r above few =
    elim (cases_lt (10 * y + 9 * g) (10 * (q + 1))) [
      | inr fine ↦ fine
      | inl short ↦ (
          let a = square_le (10 * y + g + 1) (10 * v) (omega (arith, short, r.inner, r.l_high)) in
          let b = square_le x g few in
          let some = mul-le-mul_left g r.step in
          elim (cases_lt (5 * g) y) [
            | inl more ↦ (let c = mul-le-mul_left g (let i : 5 * g + 1 ≤ y = omega (arith, more) in i) in absurd (omega (arith, a, b, c, above, some, r.step)))
            | inr less ↦ (
                let c = square_le y (5 * g) less in
                let d = square_le (7 * g) v (omega (arith, r.inner, r.far, r.l_high)) in
                absurd (omega (arith, b, c, d, above, some, r.step)))
          ])
    ]

-- and so is the end
end_far : (g q z w : ℕ) → 500 ≤ g → 8 * g ≤ q + 1 → q * q ≤ z * z + w * w → 10 * w ≤ 12 * g → 10 * q ≤ 10 * z + g
end_far g q z w step far round few =
    elim (cases_lt (10 * z + g) (10 * q)) [
      | inr fine ↦ fine
      | inl short ↦ (
          let a = square_le (10 * z + g + 1) (10 * q) (omega (arith, short)) in
          let b = square_le (10 * w) (12 * g) few in
          let some = mul-le-mul_left g step in
          elim (cases_lt (36 * g) (5 * z)) [
            | inl more ↦ (let c = mul-le-mul_left g (let i : 36 * g + 1 ≤ 5 * z = omega (arith, more) in i) in
                absurd (omega (arith, a, b, c, round, some, step)))
            | inr less ↦ (
                let c = square_le (5 * z) (36 * g) less in
                let e = square_le (15 * g) (2 * q) (omega (arith, far, step)) in
                absurd (omega (arith, b, c, e, round, some, step)))
          ])
    ]

-- the end's distance from the half axis is hardly greater than that of a point before it, at u and
-- y
aside : (g q u y z w : ℕ) → 500 ≤ g → 8 * g ≤ q + 1 → u ≤ g → 10 * (q + 1) ≤ 10 * y + 9 * g → z ≤ q + 1 → y * w ≤ u * z → 5 * w ≤ 5 * u + g
aside g q u y z w step far few along low past =
    elim (cases_lt (5 * u + g) (5 * w)) [
      | inr fine ↦ fine
      | inl more ↦ (
          let a = mul-le-mul_left y (let i : 5 * u + g + 1 ≤ 5 * w = omega (arith, more) in i) in
          let b = mul-le-mul_left u low in
          let c = mul-le-mul_left u along in
          let d = mul-le-mul_left g few in
          let e = mul-le-mul_left g along in
          let f = mul-le-mul_left g far in
          let some = mul-le-mul_left g step in
          absurd (omega (arith, a, b, c, d, e, f, past, some, step)))
    ]

ray_low : (q z w : ℕ) → IsRay q z w → z ≤ q + 1
ray_low q z w ray = from_squares z (q + 1) (omega (arith, ray.great))

ray_low_second : (q z w : ℕ) → IsRay q z w → w ≤ q + 1
ray_low_second q z w ray = from_squares w (q + 1) (omega (arith, ray.great))

-- over the half axis, to an end in the quadrant after the joint's, with the joint at (x, y)
pub over_pair : (g q h k l v x y z w : ℕ) → IsRim g q h k l v → IsRay q z w → v * v ≤ square x y → x < g → y * w ≤ (g - x) * z → 2 * y ≤ 2 * (q + 1) + g →
    IsPair g (x + w) (gap y z)
over_pair g q h k l v x y z w r ray above near past high =
    let u = g - x in
    let eu : u + x ≡ g = omega (arith, near) in
    let low = ray_low q z w ray in
    let along = beside_far g q h k l v x y r above (omega (arith, near)) in
    let off = aside g q u y z w r.step r.far (omega (arith, eu)) along low past in
    let far = end_far g q z w r.step r.far ray.small (omega (arith, off, eu)) in
    record {
      first = omega (arith, off, eu, r.step);
      second = omega (arith, ints, along, low, far, high, r.step);
      one = inr (omega (arith, ints, along, low, far, high, r.step));
    }

-- the point does not fall short of an end there along the second axis
pub over_behind : (g q h k l v x y z w : ℕ) → IsRim g q h k l v → IsRay q z w → v * v ≤ square x y → x < g → y * w ≤ (g - x) * z → 2 * y ≤ 2 * (q + 1) + g →
    4 * y ≤ 4 * z + 3 * g
over_behind g q h k l v x y z w r ray above near past high =
    let u = g - x in
    let eu : u + x ≡ g = omega (arith, near) in
    let off = aside g q u y z w r.step r.far (omega (arith, eu)) (beside_far g q h k l v x y r above (omega (arith, near))) (ray_low q z w ray) past in
    let far = end_far g q z w r.step r.far ray.small (omega (arith, off, eu)) in
    omega (arith, far, high, r.step)

-- to an end before the half axis
pub over_here : (g q h k l v x y ex ey : ℕ) → IsRim g q h k l v → IsRay q ex ey → v * v ≤ square x y → x < g → 2 * ex ≤ 2 * x + g + 40 →
    2 * y ≤ 2 * ey + g + 2 → IsPair g (gap x ex) (gap y ey)
over_here g q h k l v x y ex ey r ray above near first second =
    let along = beside_far g q h k l v x y r above (omega (arith, near)) in
    let low = ray_low_second q ex ey ray in
    record {
      first = omega (arith, ints, near, first, r.step);
      second = omega (arith, ints, along, low, second, r.step);
      one = inl (omega (arith, ints, near, first, r.step));
    }

-- the joint (x, y) is past the half axis, and the end is not
pub back_pair : (g q h k l v x y ex ey : ℕ) → IsRim g q h k l v → IsRay q ex ey → v * v ≤ square x y → 2 * y ≤ g → 2 * (ex + y) ≤ g + 40 →
    2 * x ≤ 2 * ey + g + 2 → IsPair g (ex + y) (gap ey x)
back_pair g q h k l v x y ex ey r ray above near first second =
    let along = beside_far g q h k l v y x r (omega (arith, above)) (omega (arith, near)) in
    let low = ray_low_second q ex ey ray in
    record {
      first = omega (arith, first, r.step);
      second = omega (arith, ints, along, low, second, r.step);
      one = inl (omega (arith, first, r.step));
    }

-- both are
pub beyond_pair : (g q h k l v x y z w : ℕ) → IsRim g q h k l v → IsRay q z w → v * v ≤ square x y → 2 * y ≤ g → x * w ≤ y * z → 2 * x ≤ 2 * (q + 1) + g →
    IsPair g (gap x z) (gap y w)
beyond_pair g q h k l v x y z w r ray above near past high =
    let low = ray_low q z w ray in
    let along = beside_far g q h k l v y x r (omega (arith, above)) (omega (arith, near)) in
    let off = aside g q y x z w r.step r.far (omega (arith, near)) along low past in
    let far = end_far g q z w r.step r.far ray.small (omega (arith, off, near)) in
    record {
      first = omega (arith, ints, along, low, far, high, r.step);
      second = omega (arith, ints, off, near, r.step);
      one = inr (omega (arith, ints, off, near, r.step));
    }

pub beyond_behind : (g q h k l v x y z w : ℕ) → IsRim g q h k l v → IsRay q z w → v * v ≤ square x y → 2 * y ≤ g → x * w ≤ y * z → 2 * x ≤ 2 * (q + 1) + g →
    4 * x ≤ 4 * z + 3 * g
beyond_behind g q h k l v x y z w r ray above near past high =
    let off = aside g q y x z w r.step r.far (omega (arith, near)) (beside_far g q h k l v y x r (omega (arith, above)) (omega (arith, near)))
    (ray_low q z w ray) past in
    let far = end_far g q z w r.step r.far ray.small (omega (arith, off, near)) in
    omega (arith, far, high, r.step)

-- ---- the joint and the end by quadrants

-- the start b between the circles of radius p and p + 1, and its joint j on the circle of radius r
pub record IsPlacedJoint (g p r : ℕ) (b j : Spoke) : Type 0 where
  pub joined : IsJoined g p r b j
  pub round : b.x * b.x + b.y * b.y ≤ (p + 1) * (p + 1)
  pub alike : r ≤ 20 * (p + 1)

joint_same : (g p r : ℕ) (b j : Spoke) → IsPlacedJoint g p r b j → j.quadrant ≡ b.quadrant → IsJoint g (p + 1) r j.x b.x × IsJoint g (p + 1) r j.y b.y
joint_same g p r b j h same =
    moved_same b.quadrant g (p + 1) r b.x b.y j.x j.y (into g p r b.quadrant j.quadrant b.quadrant b.x b.y j.x j.y same h.joined.moved)

joint_next : (g p r : ℕ) (b j : Spoke) → IsPlacedJoint g p r b j → j.quadrant ≡ following b.quadrant →
    IsJoint g (p + 1) r j.x b.y × IsAcross g (p + 1) r b.x j.y
joint_next g p r b j h next =
    moved_next b.quadrant g (p + 1) r b.x b.y j.x j.y (into g p r b.quadrant j.quadrant (following b.quadrant) b.x b.y j.x j.y next h.joined.moved)

joint_before : (g p r : ℕ) (b j : Spoke) → IsPlacedJoint g p r b j → b.quadrant ≡ following j.quadrant →
    IsJoint g (p + 1) r j.y b.x × IsAcross g (p + 1) r b.y j.x
joint_before g p r b j h before =
    moved_before j.quadrant g (p + 1) r b.x b.y j.x j.y (from g p r b.quadrant j.quadrant (following j.quadrant) b.x b.y j.x j.y before h.joined.moved)

-- the consequences of the start's ray for the joint and the end, by quadrants, if the end is at
-- most d nearer to the centre than r
pub record IsBehind (g r d : ℕ) (b j e : Spoke) : Type 0 where
  pub first : j.quadrant ≡ b.quadrant → b.y * e.x < b.x * e.y → 2 * e.x ≤ 2 * j.x + g + 40
  pub second : j.quadrant ≡ b.quadrant → b.y * e.x < b.x * e.y → 2 * j.y ≤ 2 * e.y + g + 2 * d
  pub high : j.quadrant ≡ b.quadrant → 2 * j.y ≤ 2 * r + g
  pub across : j.quadrant ≡ following b.quadrant → b.y * e.x < b.x * e.y → 2 * (e.x + j.y) ≤ g + 40
  pub second_next : j.quadrant ≡ following b.quadrant → b.y * e.x < b.x * e.y → 2 * j.x ≤ 2 * e.y + g + 2 * d
  pub small_next : j.quadrant ≡ following b.quadrant → 2 * j.y ≤ g
  pub high_next : j.quadrant ≡ following b.quadrant → 2 * j.x ≤ 2 * r + g
  pub first_before : b.quadrant ≡ following j.quadrant → b.y * e.x < b.x * e.y → 2 * e.x ≤ 2 * j.y + g + 40
  pub high_before : b.quadrant ≡ following j.quadrant → 2 * j.y ≤ 2 * r + g

pub behind_joint : (g p q r d : ℕ) (b j e : Spoke) → IsPlacedJoint g p r b j → IsRay q e.x e.y → q + 1 ≤ r → r ≤ q + d → IsBehind g r d b j e
behind_joint g p q r d b j e h ray out near =
    let great : e.x * e.x + e.y * e.y ≤ r * r = (let a = square_le (q + 1) r out in omega (arith, a, ray.great)) in
    record {
      first = λ same past. along_first g p r 20 j.x b.x b.y e.x e.y (joint_same g p r b j h same).0 h.joined.round great (omega (arith, past)) h.alike;
      second = λ same past. along_second g p q r d j.y b.x b.y e.x e.y (joint_same g p r b j h same).1 h.round ray.small (omega (arith, past)) near;
      high = λ same. joint_far g p r j.y b.x b.y (joint_same g p r b j h same).1 h.round;
      across = λ next past. along_across g p r 20 j.y b.x b.y e.x e.y (joint_next g p r b j h next).1 h.joined.round great (omega (arith, past)) h.alike;
      second_next = λ next past. along_second g p q r d j.x b.x b.y e.x e.y (joint_next g p r b j h next).0 h.round ray.small (omega (arith, past)) near;
      small_next = λ next. small_across g (p + 1) r b.x j.y (omega arith) (joint_next g p r b j h next).1;
      high_next = λ next. joint_far g p r j.x b.x b.y (joint_next g p r b j h next).0 h.round;
      first_before =
          λ before past. along_first g p r 20 j.y b.x b.y e.x e.y (joint_before g p r b j h before).0 h.joined.round great (omega (arith, past)) h.alike;
      high_before = λ before. joint_far g p r j.y b.y b.x (joint_before g p r b j h before).0 (omega (arith, h.round));
    }

pub large_behind : (g q p : ℕ) (b j e : Spoke) → IsPlacedJoint g p (q + 1) b j → IsRay q e.x e.y → IsBehind g (q + 1) 1 b j e
large_behind g q p b j e h ray = behind_joint g p q (q + 1) 1 b j e h ray (omega arith) (omega arith)

-- a wheel that begins at the joint
pub large_stands_way : (g q h k l v p begun whole : ℕ) (steep : Bool) (b j e : Spoke) → IsRim g q h k l v → IsPlacedJoint g p (q + 1) b j →
    IsNearJoint g (q + 1) v steep j → IsRay q e.x e.y →
    IsReached b j e begun whole → SomeWay (IsPair g) j e
large_stands_way g q h k l v p begun whole steep b j e r placed near ray reach =
    let w = large_behind g q p b j e placed ray in
    settled_stands (IsPair g) b j e begun whole reach (record {
      here = λ same turn past. stands_here g q h k l v e.x e.y steep j r near ray past (w.first same turn) (omega (arith, w.second same turn));
      back =
          λ next turn. back_pair g q h k l v j.x j.y e.x e.y r ray near.low (w.small_next next) (w.across next turn) (omega (arith, w.second_next next turn));
      beyond = λ next past. beyond_pair g q h k l v j.x j.y e.x e.y r ray near.low (w.small_next next) past (w.high_next next);
    })

-- and one whose first point is a move away
pub large_enters_way : (g q h k l v p begun whole : ℕ) (steep : Bool) (b j e : Spoke) (roll : Roll) → IsRim g q h k l v → IsPlacedJoint g p (q + 1) b j →
    IsNearJoint g (q + 1) v steep j → IsRay q e.x e.y → 0 < e.x →
    cross (way_to b) (way_to j) <ℤ pos 0 → IsEntry g (limit_of q h) steep j roll → IsReached b (rolled g roll j) e begun whole → SomeWay (IsPair g) j e
large_enters_way g q h k l v p begun whole steep b j e roll r placed near ray some afterwards entry reach =
    let w = large_behind g q p b j e placed ray in
    settled_enters (IsPair g) g (limit_of q h) steep b j e roll begun whole reach afterwards entry (record {
      here = λ same inside turn past. rolls_here g q h k l v e.x e.y steep j roll r near ray inside some entry past (w.first same turn)
          (omega (arith, w.second same turn));
      over_here = λ same less turn. over_here g q h k l v j.x j.y e.x e.y r ray near.low less (w.first same turn) (omega (arith, w.second same turn));
      over = λ same less past. over_pair g q h k l v j.x j.y e.x e.y r ray near.low less past (w.high same);
      before = λ before less turn past. over_pair g q h k l v j.x j.y e.x e.y r ray near.low less past (w.high_before before);
    })
