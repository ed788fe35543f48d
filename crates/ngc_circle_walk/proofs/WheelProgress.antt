-- A wheel turns forward: each move leads further round.
use Rattle.std.proofs.Common.{◌≡◌, ℕ, ◌+◌, ◌-◌, ◌*◌, ◌<◌, ◌≤◌, arith}
use Rattle.std.proofs.Math.Nat.{mul-le-mul_left}
use Rattle.ngc_circle_walk.specs.declared.spoke.Roll.{Roll}
use Rattle.ngc_circle_walk.specs.declared.spoke.Roll.TheVariants.{Outward, Diagonal, Inward, Over}
use Rattle.ngc_circle_walk.specs.declared.spoke.Spoke.{Spoke}
use Rattle.ngc_circle_walk.specs.Wheel.{rolled, IsRoll}
use Rattle.ngc_circle_walk.specs.Rolling.{quadrants_of}
use Rattle.ngc_circle_walk.specs.Bounds.{IsBelow, IsAbove}
use Rattle.ngc_circle_walk.proofs.Rays.{square_le, from_squares}
use Rattle.ngc_circle_walk.proofs.NearEnd.{IsRim, IsRay, IsBeside, limit_of, far_enough, not_behind, not_beyond}

-- ---- a measure of progress: within a quadrant the excess of y over x, and twice the reach for
-- each quadrant

abbrev pub gone : ℕ → ℕ → Spoke → ℕ
gone reach quadrants s = 2 * reach * quadrants + (reach - s.x) + s.y

pub goes_on : (g limit reach n : ℕ) (s : Spoke) (r : Roll) → s.x ≤ reach → s.y ≤ reach → IsRoll g limit s r →
    gone reach n s + g ≤ gone reach (quadrants_of n r) (rolled g r s)
goes_on g limit reach n s Outward hx hy roll = omega arith
goes_on g limit reach n s Diagonal hx hy roll = omega (arith, roll.0)
goes_on g limit reach n s Inward hx hy roll = omega (arith, roll.0)
goes_on g limit reach n s Over hx hy roll = omega (arith, roll)

-- ---- no turning back: in a quadrant the cross product of two successive points is at least 0
pub turns_on : (g limit : ℕ) (s : Spoke) → (r : Roll) → g ≤ s.x → IsRoll g limit s r → s.y * (rolled g r s).x ≤ s.x * (rolled g r s).y
turns_on g limit s Outward h roll = omega arith
turns_on g limit s Diagonal h roll = let t = s.x - g in let e : t + g ≡ s.x = omega arith in let a = mul-le-mul_left s.y h in
    let b : s.y * (t + g) ≡ s.y * s.x = rw e in omega arith
turns_on g limit s Inward h roll = let t = s.x - g in let e : t + g ≡ s.x = omega arith in let b : s.y * (t + g) ≡ s.y * s.x = rw e in omega arith
turns_on g limit s Over h roll = absurd (omega (arith, roll))

-- ---- over an axis

-- the points before and after an axis are near its quadrant point at the radius big
pub at_axis : (a y w big d : ℕ) → w * w ≤ y * y + a * a → y * y + a * a ≤ (big + d) * (big + d) → y ≤ big + d
at_axis a y w big d low high = from_squares y (big + d) (omega arith)

-- the last point and an end in its own quadrant, if the next move goes over the axis
pub over_near : (g q h k l v : ℕ) (s : Spoke) (ex ey : ℕ) → IsRim g q h k l v → IsRay q ex ey → IsBelow g (limit_of q l) s → IsAbove g v s →
    s.x < g → s.y * ex < s.x * ey → IsBeside g s.x ex × IsBeside g s.y ey
over_near g q h k l v s ex ey r ray below above less before =
    let w = v - k in
    let e : w + k ≡ v = omega (arith, r.inner, r.far, r.k_high, r.l_high) in
    let up = above.by_axis less in
    let a = square_le s.x g (omega arith) in
    let b = far_enough g q h k l v 0 s.y w r e (omega (arith, up, a)) in
    let c = from_squares w s.y (omega (arith, b)) in
    let t = from_squares ey (q + 1) (omega (arith, ray.great)) in (
      record { up = omega (arith, less); down = not_behind g q h k l v s.x s.y ex ey r ray above.all (omega arith) },
      record { up = not_beyond g q h k l v s.x s.y ex ey r ray below.all (omega arith); down = omega (arith, c, t, e, r.inner, r.l_high, r.k_high, r.step) },
    )
