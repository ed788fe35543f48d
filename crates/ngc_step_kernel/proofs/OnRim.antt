-- The wheel's points on the grid: their positions about the centre, and their distances from it.
use Rattle.std.proofs.Common.{◌≡◌, ℕ, zero, suc, ◌+◌, ◌*◌, ◌≤◌, arith, ℤ, pos, negsuc, ◌+ℤ◌, ◌-ℤ◌, ◌*ℤ◌, neg_ℤ, unsigned_abs}
use Rattle.std.proofs.lemmas.Int.{ints}
use Rattle.std.proofs.Math.Nat.{mul-le-mul_left}
use Rattle.ngc_fixed_length.specs.declared.points.Point2.{Point2}
use Rattle.ngc_fixed_length.specs.Grid.{distance}
use Rattle.ngc_circle_walk.specs.declared.spoke.Quadrant.{Quadrant}
use Rattle.ngc_circle_walk.specs.declared.spoke.Quadrant.TheVariants.{First, Second, Third, Fourth}
use Rattle.ngc_circle_walk.specs.declared.spoke.Roll.{Roll}
use Rattle.ngc_circle_walk.specs.declared.spoke.Roll.TheVariants.{Outward, Diagonal, Inward, Over}
use Rattle.ngc_circle_walk.specs.declared.spoke.Spoke.{Spoke}
use Rattle.ngc_circle_walk.specs.Around.{around}
use Rattle.ngc_circle_walk.specs.Wheel.{rolled, IsRoll, IsSmall, next_roll, CanRoll}
use Rattle.ngc_circle_walk.proofs.Rim.{rolls_below}
use Rattle.ngc_circle_walk.specs.Bounds.{IsBelow}
use Rattle.ngc_circle_walk.proofs.OneRoll.{next_is_due}
use Rattle.ngc_circle_walk.proofs.Rolling.{within_reach}
use Rattle.ngc_step_kernel.specs.declared.moves.AxisMove.{AxisMove}
use Rattle.ngc_step_kernel.specs.declared.moves.AxisMove.TheVariants.{Back, Stay, Forward}
use Rattle.ngc_step_kernel.specs.declared.spot.Spot.{Spot}
use Rattle.ngc_step_kernel.specs.About.{IsAbout}
use Rattle.ngc_step_kernel.specs.Course.{round_at}
use Rattle.ngc_circle_walk.specs.Rolling.{spoke_at}
use Rattle.ngc_step_kernel.specs.Move.{steps_of}
use Rattle.ngc_step_kernel.specs.Spots.{IsSpot, spot_moved, roll_move, straight_moves}
use Rattle.ngc_step_kernel.proofs.LineLemmas.{scale-sum}

pub below_on : (g limit u : ℕ) (s : Spoke) (k : ℕ) → limit ≤ u * u → 2 * (g * g) ≤ u * u → IsBelow g (u * u) s → IsBelow g (u * u) (spoke_at g limit s k)
unfolding spoke_at
below_on g limit u s zero more room first = first
below_on g limit u s (suc k) more room first = rolls_below g limit (u * u) (spoke_at g limit s k) (next_roll g limit (spoke_at g limit s k)) more room
    (below_on g limit u s k more room first) (next_is_due g limit (spoke_at g limit s k))

-- so all its coordinates fit
pub small_on : (g limit u : ℕ) (s : Spoke) (k : ℕ) → limit ≤ u * u → 2 * (g * g) ≤ u * u → IsBelow g (u * u) s → u + g ≤ 3000000000 →
    IsSmall (spoke_at g limit s k)
small_on g limit u s k more room first far =
    let near = within_reach g u (spoke_at g limit s k) (below_on g limit u s k more room first) in
    record { x = omega (arith, near.0); y = omega (arith, near.1) }

-- ---- the grid point of each

abbrev scaled : AxisMove → ℕ → ℤ
scaled Back g = neg_ℤ (pos g)
scaled Stay g = pos 0
scaled Forward g = pos g

step_scaled : (g : ℕ) (m : AxisMove) → steps_of m *ℤ pos g ≡ scaled m g
step_scaled g Back = omega (arith, ints)
step_scaled g Stay = omega (arith, ints)
step_scaled g Forward = omega (arith, ints)

scaled_step : (g : ℕ) (a : ℤ) (m : AxisMove) → (a +ℤ steps_of m) *ℤ pos g ≡ (a *ℤ pos g) +ℤ scaled m g
scaled_step g a m = rw (← step_scaled g m) (scale-sum g a (steps_of m))

abbrev spoke_of : Quadrant → ℕ → ℕ → Spoke
spoke_of q x y = record { quadrant = q; x = x; y = y }

pub about_rolls : (g : ℕ) (c : Point2) (p : Spot) (q : Quadrant) (x y : ℕ) (r : Roll) → IsAbout g c p (spoke_of q x y) → CanRoll g (spoke_of q x y) r →
    IsAbout g c (spot_moved p (roll_move r q)) (rolled g r (spoke_of q x y))
about_rolls g c p First x y Outward h roll =
    record { u = omega (arith, ints, scaled_step g p.u Stay, h.u); v = omega (arith, ints, scaled_step g p.v Forward, h.v) }
about_rolls g c p Second x y Outward h roll =
    record { u = omega (arith, ints, scaled_step g p.u Back, h.u); v = omega (arith, ints, scaled_step g p.v Stay, h.v) }
about_rolls g c p Third x y Outward h roll =
    record { u = omega (arith, ints, scaled_step g p.u Stay, h.u); v = omega (arith, ints, scaled_step g p.v Back, h.v) }
about_rolls g c p Fourth x y Outward h roll =
    record { u = omega (arith, ints, scaled_step g p.u Forward, h.u); v = omega (arith, ints, scaled_step g p.v Stay, h.v) }
about_rolls g c p First x y Diagonal h roll =
    record { u = omega (arith, ints, scaled_step g p.u Back, h.u, roll); v = omega (arith, ints, scaled_step g p.v Forward, h.v, roll) }
about_rolls g c p Second x y Diagonal h roll =
    record { u = omega (arith, ints, scaled_step g p.u Back, h.u, roll); v = omega (arith, ints, scaled_step g p.v Back, h.v, roll) }
about_rolls g c p Third x y Diagonal h roll =
    record { u = omega (arith, ints, scaled_step g p.u Forward, h.u, roll); v = omega (arith, ints, scaled_step g p.v Back, h.v, roll) }
about_rolls g c p Fourth x y Diagonal h roll =
    record { u = omega (arith, ints, scaled_step g p.u Forward, h.u, roll); v = omega (arith, ints, scaled_step g p.v Forward, h.v, roll) }
about_rolls g c p First x y Inward h roll =
    record { u = omega (arith, ints, scaled_step g p.u Back, h.u, roll); v = omega (arith, ints, scaled_step g p.v Stay, h.v, roll) }
about_rolls g c p Second x y Inward h roll =
    record { u = omega (arith, ints, scaled_step g p.u Stay, h.u, roll); v = omega (arith, ints, scaled_step g p.v Back, h.v, roll) }
about_rolls g c p Third x y Inward h roll =
    record { u = omega (arith, ints, scaled_step g p.u Forward, h.u, roll); v = omega (arith, ints, scaled_step g p.v Stay, h.v, roll) }
about_rolls g c p Fourth x y Inward h roll =
    record { u = omega (arith, ints, scaled_step g p.u Stay, h.u, roll); v = omega (arith, ints, scaled_step g p.v Forward, h.v, roll) }
about_rolls g c p First x y Over h roll =
    record { u = omega (arith, ints, scaled_step g p.u Back, h.u, roll); v = omega (arith, ints, scaled_step g p.v Stay, h.v, roll) }
about_rolls g c p Second x y Over h roll =
    record { u = omega (arith, ints, scaled_step g p.u Stay, h.u, roll); v = omega (arith, ints, scaled_step g p.v Back, h.v, roll) }
about_rolls g c p Third x y Over h roll =
    record { u = omega (arith, ints, scaled_step g p.u Forward, h.u, roll); v = omega (arith, ints, scaled_step g p.v Stay, h.v, roll) }
about_rolls g c p Fourth x y Over h roll =
    record { u = omega (arith, ints, scaled_step g p.u Stay, h.u, roll); v = omega (arith, ints, scaled_step g p.v Forward, h.v, roll) }

can_of : (g limit : ℕ) (s : Spoke) (r : Roll) → IsRoll g limit s r → CanRoll g s r
can_of g limit s Over h = omega (arith, h)
can_of g limit s Outward h = tt
can_of g limit s Diagonal h = h.0
can_of g limit s Inward h = h.0

pub about_on : (g limit : ℕ) (c : Point2) (s : Spoke) (p : Spot) (k : ℕ) → IsAbout g c p s → IsAbout g c (round_at g limit s p k) (spoke_at g limit s k)
unfolding spoke_at round_at
about_on g limit c s p zero first = first
about_on g limit c s p (suc k) first =
    let w = spoke_at g limit s k in
    about_rolls g c (round_at g limit s p k) w.quadrant w.x w.y (next_roll g limit w) (about_on g limit c s p k first)
    (can_of g limit w (next_roll g limit w) (next_is_due g limit w))

-- ---- its distance from the centre

place_small : (a : ℤ) (g b : ℕ) → 500 ≤ g → unsigned_abs (a *ℤ pos g) ≤ b → 500 * unsigned_abs a ≤ b
place_small (pos n) g b h e = omega (arith, ints, mul-le-mul_left n h, e)
place_small (negsuc n) g b h e = omega (arith, ints, mul-le-mul_left (suc n) h, e)

pub around_small : (q : Quadrant) (x y : ℕ) → x ≤ 3000000000 → y ≤ 3000000000 →
    (unsigned_abs (around q x y).u ≤ 3000000000) × (unsigned_abs (around q x y).v ≤ 3000000000)
around_small First x y a b = (omega (arith, ints), omega (arith, ints))
around_small Second x y a b = (omega (arith, ints), omega (arith, ints))
around_small Third x y a b = (omega (arith, ints), omega (arith, ints))
around_small Fourth x y a b = (omega (arith, ints), omega (arith, ints))

sum_small : (a b c : ℤ) → a ≡ b +ℤ c → unsigned_abs b ≤ 93000000000 → unsigned_abs c ≤ 3000000000 → unsigned_abs a ≤ 96000000000
sum_small a b c e hb hc = omega (arith, ints, e)

pub about_small : (g : ℕ) (c : Point2) (p : Spot) (s : Spoke) → 500 ≤ g → unsigned_abs c.u ≤ 93000000000 → unsigned_abs c.v ≤ 93000000000 → IsAbout g c p s →
    IsSmall s → IsSpot p
about_small g c p s step cu cv h small =
    let a = around_small s.quadrant s.x s.y small.x small.y in
    let u = place_small p.u g 96000000000 step (sum_small (p.u *ℤ pos g) c.u (around s.quadrant s.x s.y).u h.u cu a.0) in
    let v = place_small p.v g 96000000000 step (sum_small (p.v *ℤ pos g) c.v (around s.quadrant s.x s.y).v h.v cv a.1) in
    record { u = omega (arith, u); v = omega (arith, v) }

pub spots_on : (g limit u : ℕ) (c : Point2) (s : Spoke) (p : Spot) (k : ℕ) → 500 ≤ g → unsigned_abs c.u ≤ 93000000000 → unsigned_abs c.v ≤ 93000000000 →
    limit ≤ u * u → 2 * (g * g) ≤ u * u → IsBelow g (u * u) s → u + g ≤ 3000000000 → IsAbout g c p s → IsSpot (round_at g limit s p k)
spots_on g limit u c s p k step cu cv more room first far about =
    about_small g c (round_at g limit s p k) (spoke_at g limit s k) step cu cv (about_on g limit c s p k about) (small_on g limit u s k more room first far)

-- ---- the number of moves between two of them

pub axis_apart : (g : ℕ) (p q c a b : ℤ) → 500 ≤ g → (p *ℤ pos g) ≡ c +ℤ a → (q *ℤ pos g) ≡ c +ℤ b → unsigned_abs a ≤ 3000000000 → unsigned_abs b ≤ 3000000000 →
    distance p q ≤ 12000000
axis_apart g p q c a b step hp hq ha hb =
    let d = q -ℤ p in
    let whole : p +ℤ d ≡ q = omega (arith, ints) in
    let e = scale-sum g p d in
    let f : q *ℤ pos g ≡ (p *ℤ pos g) +ℤ (d *ℤ pos g) = rw whole at e in
    let h : unsigned_abs (d *ℤ pos g) ≤ 6000000000 = omega (arith, ints, f, hp, hq, ha, hb) in
    omega (arith, place_small d g 6000000000 step h)

pub about_apart : (g : ℕ) (c : Point2) (p q : Spot) (s t : Spoke) → 500 ≤ g → IsAbout g c p s → IsAbout g c q t → IsSmall s → IsSmall t →
    straight_moves p q ≤ 12000000
about_apart g c p q s t step hp hq small_s small_t =
    let a = around_small s.quadrant s.x s.y small_s.x small_s.y in
    let b = around_small t.quadrant t.x t.y small_t.x small_t.y in
    let u = axis_apart g p.u q.u c.u (around s.quadrant s.x s.y).u (around t.quadrant t.x t.y).u step hp.u hq.u a.0 b.0 in
    let v = axis_apart g p.v q.v c.v (around s.quadrant s.x s.y).v (around t.quadrant t.x t.y).v step hp.v hq.v a.1 b.1 in
    omega (arith, u, v)
