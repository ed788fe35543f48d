-- The same for circles of less than eight steps: the joint is less than four steps from the end.
use Rattle.std.proofs.Common.{◌≡◌, ℕ, ◌+◌, ◌-◌, ◌*◌, ◌<◌, ◌≤◌, pos, ◌<ℤ◌, inl, inr, ap, arith}
use Rattle.std.specs.Prelude.{Bool}
use Rattle.std.proofs.lemmas.Bool.{cases_lt}
use Rattle.std.proofs.lemmas.Int.{ints}
use Rattle.std.proofs.Math.Nat.{mul-le-mul_left, le_of_mul-le-mul_left}
use Rattle.ngc_fixed_length.specs.Places.{cross}
use Rattle.ngc_circle_walk.specs.declared.spoke.Roll.{Roll}
use Rattle.ngc_circle_walk.specs.declared.spoke.Roll.TheVariants.{Outward, Diagonal, Inward, Over}
use Rattle.ngc_circle_walk.specs.declared.spoke.Spoke.{Spoke}
use Rattle.ngc_circle_walk.specs.Around.{way_to}
use Rattle.ngc_circle_walk.specs.Entering.{IsEntry}
use Rattle.ngc_circle_walk.specs.Wheel.{square, rolled}
use Rattle.ngc_circle_walk.proofs.WheelStart.{IsBound, IsNearJoint, IsSmallSize, small_stands, small_enters}
use Rattle.ngc_circle_walk.proofs.NearEnd.{IsRay}
use Rattle.ngc_circle_walk.proofs.Rays.{square_le, from_squares, squares_apart, beyond, before_out}
use Rattle.ngc_circle_laws.proofs.Circuit.{gap}
use Rattle.ngc_circle_laws.proofs.NearEndArcs.{IsPlacedJoint, IsBehind, behind_joint, not_both}
use Rattle.ngc_circle_laws.proofs.ReachedEndRays.{IsReached, SomeWay, settled_stands, settled_enters}

-- the end is no farther out than the circle, and at most a step nearer
pub record IsSmallRay (g q r : ℕ) : Type 0 where
  pub out : q + 1 ≤ r
  pub near : r ≤ q + 1 + g
  pub small : q + 1 ≤ 8 * g

-- the squared distance is at most fifteen squares of a step
abbrev pub IsFew : ℕ → ℕ → ℕ → Type 0
IsFew g m n = m * m + n * n ≤ 15 * (g * g)

-- ---- a first point and the end in one quadrant

past_far : (x y ex ey q h : ℕ) → x * ey ≤ y * ex → x * x + y * y ≤ (q + 1 + h) * (q + 1 + h) → q * q ≤ ex * ex + ey * ey → ex ≤ q + 1 → h + 1 ≤ 3 * q → 0 < q →
    x ≤ ex + h + 4
past_far x y ex ey q h past near round small wide some =
    let a = beyond x y ex ey past in
    let b = mul-le-mul_left (x * x) round in
    let c = mul-le-mul_left (ex * ex) near in
    let r = from_squares (x * q) ((q + 1 + h) * ex) (omega (arith, a, b, c)) in
    let n = mul-le-mul_left (h + 1) small in
    let d : q * x ≤ q * (ex + h + 4) = omega (arith, r, n, wide) in
    le_of_mul-le-mul_left d some

-- a little farther than the bound, by the square of a step
bound_out : (g r h l m v n : ℕ) → IsSmallSize g r h l m v → n ≤ (r + l) * (r + l) + g * g → n ≤ (r + l + h) * (r + l + h)
bound_out g r h l m v n s below =
    let a : 6 * g ≤ 2 * (r + l) = omega (arith, s.least, s.l_low, s.step) in
    let b = mul-le-mul_left h a in
    let c = mul-le-mul_left g s.h_low in
    let d = mul-le-mul_left g s.step in
    omega (arith, b, c, d, below)

bound_in : (g r h l m v w n : ℕ) → IsSmallSize g r h l m v → w + (h + 2) ≡ v → v * v ≤ n + g * g → w * w ≤ n
bound_in g r h l m v w n s e above =
    let d = h + 2 in
    let a : (w + d) * (w + d) ≡ v * v = ap (λ t. t * t) e in
    let b : 5 * g ≤ 2 * (2 * w + d) + 4 = omega (arith, e, s.inner, s.least, s.m_high, s.h_high) in
    let c = mul-le-mul_left d b in
    let f = mul-le-mul_left g (let i : 2 * g + 6 ≤ 5 * d = omega (arith, s.h_low) in i) in
    omega (arith, a, c, f, above, s.h_high, s.step)

few_squares : (g m n a b : ℕ) → 100 * m ≤ a * g → 100 * n ≤ b * g → a * a + b * b ≤ 150000 → IsFew g m n
few_squares g m n a b hm hn h =
    let p = square_le (100 * m) (a * g) hm in
    let q = square_le (100 * n) (b * g) hn in
    let i = mul-le-mul_left (g * g) h in
    omega (arith, p, q, i)

-- the first point at most a move from the joint (x, y)
pub small_here : (g q r h l m v x y ex ey : ℕ) (f : Spoke) → IsSmallSize g r h l m v → IsSmallRay g q r → IsRay q ex ey → IsBound g ((r + l) * (r + l)) v f →
    x ≤ f.x + g → f.y ≤ y + g → f.x * ey ≤ f.y * ex →
    2 * ex ≤ 2 * x + g + 40 → 2 * y ≤ 2 * ey + g + 2 * (g + 1) → IsFew g (gap x ex) (gap y ey)
small_here g q r h l m v x y ex ey f s z ray bound back up past first second =
    let low = from_squares ex (q + 1) (omega (arith, ray.great)) in
    let out = bound_out g r h l m v (square f.x f.y) s bound.below.all in
    let wider = square_le (r + l + h) (q + 1 + (g + l + h)) (omega (arith, z.near)) in
    let a = past_far f.x f.y ex ey q (g + l + h) past (omega (arith, out, wider)) ray.small low (omega (arith, z.near, s.least, s.l_high, s.h_high, s.step))
    (omega (arith, z.near, s.least, s.step)) in
    let w = v - (h + 2) in
    let ew : w + (h + 2) ≡ v = omega (arith, s.inner, s.least, s.m_high, s.h_high, s.step) in
    let inner = bound_in g r h l m v w (square f.x f.y) s ew bound.above.all in
    let great = square_le (q + 1) (w + (h + 2 + m)) (omega (arith, z.out, ew, s.inner)) in
    let b = before_out f.y f.x ey ex w (h + 2 + m) (omega (arith, past)) (omega (arith, inner)) (omega (arith, ray.great, great))
    (omega (arith, ew, s.inner, s.least, s.m_high, s.h_high, s.step)) in
    let far : x ≤ ex + g + g + l + h + 4 = omega (arith, a, back) in
    let short : ey ≤ y + g + h + 2 + m = omega (arith, b, up) in
    elim (cases_lt (ex + g) x) [
      | inr near ↦ few_squares g (gap x ex) (gap y ey) 100 225 (omega (arith, ints, near, first, s.step))
          (omega (arith, ints, short, second, s.h_high, s.m_high, s.step)) (omega arith)
      | inl more ↦ (
          let c = not_both f.x f.y ex ey past (omega (arith, more, back)) in
          few_squares g (gap x ex) (gap y ey) 351 155 (omega (arith, ints, far, first, s.l_high, s.h_high, s.step)) (omega (arith, ints, c, up, second, s.step))
          (omega arith))
    ]

-- ---- beside a half axis

axes_long : (v x y : ℕ) → v * v ≤ square x y → v ≤ x + y
axes_long v x y h = from_squares v (x + y) (omega (arith, h))

-- an end that is not steep is far along the first axis
flat_far : (q z w : ℕ) → q * q ≤ z * z + w * w → 29 * w ≤ 20 * z → 4 * q ≤ 5 * z
flat_far q z w round flat =
    elim (cases_lt (5 * z) (4 * q)) [
      | inr fine ↦ fine
      | inl less ↦ (
          let a = square_le (29 * w) (20 * z) flat in
          let b = square_le (5 * z + 1) (4 * q) (omega (arith, less)) in
          absurd (omega (arith, a, b, round)))
    ]

-- the end before the half axis, which a move over it leads past
pub small_over_here : (g q r h l m v x y ex ey : ℕ) → IsSmallSize g r h l m v → IsSmallRay g q r → IsRay q ex ey → v * v ≤ square x y → x < g →
    2 * ex ≤ 2 * x + g + 40 → 2 * y ≤ 2 * ey + g + 2 * (g + 1) →
    IsFew g (gap x ex) (gap y ey)
small_over_here g q r h l m v x y ex ey s z ray above near first second =
    let long = axes_long v x y above in
    let low = from_squares ey (q + 1) (omega (arith, ray.great)) in
    few_squares g (gap x ex) (gap y ey) 100 225 (omega (arith, ints, near, first, s.step))
    (omega (arith, ints, long, low, near, second, z.out, s.inner, s.m_high, s.step)) (omega arith)

-- past it: the end is at most two steps from the joint across it
over_across : (g r c u x y z w m v : ℕ) → 0 < g → u + x ≡ g → v + m ≡ r → v ≡ c + g → 9 * g ≤ 20 * c → 5 * m ≤ 4 * g → v ≤ x + y → z ≤ r → y * w ≤ u * z →
    x + w ≤ 2 * g
over_across g r c u x y z w m v some eu er ec wide few long low past =
    elim (cases_lt (2 * g) (x + w)) [
      | inr fine ↦ fine
      | inl more ↦ (
          let t = c + u in
          let along : t ≤ y = omega (arith, eu, ec, long) in
          let high : g + u + 1 ≤ w = omega (arith, eu, more) in
          let a = mul-le-mul_left w along in
          let b = mul-le-mul_left t high in
          let d = mul-le-mul_left u low in
          let e : u * r ≡ u * (c + g + m) = ap (λ i. u * i) (let i : r ≡ c + g + m = omega (arith, er, ec) in i) in
          let f = mul-le-mul_left g wide in
          let i = mul-le-mul_left u few in
          let n = squares_apart (5 * u) (2 * g) in
          absurd (omega (arith, a, b, d, e, f, i, n, past, some, wide)))
    ]

pub small_over : (g q r h l m v x y z w : ℕ) → IsSmallSize g r h l m v → IsSmallRay g q r → IsRay q z w → v * v ≤ square x y → x < g → y * w ≤ (g - x) * z →
    2 * y ≤ 2 * r + g → IsFew g (x + w) (gap y z)
small_over g q r h l m v x y z w s k ray above near past high =
    let u = g - x in
    let eu : u + x ≡ g = omega (arith, near) in
    let c = v - g in
    let ec : v ≡ c + g = omega (arith, s.inner, s.least, s.m_high) in
    let long = axes_long v x y above in
    let low = from_squares z (q + 1) (omega (arith, ray.great)) in
    let aside = over_across g r c u x y z w m v (omega (arith, s.step)) eu s.inner ec (omega (arith, ec, s.inner, s.least, s.m_high)) s.m_high long
    (omega (arith, low, k.out)) past in
    let steep : 29 * u ≤ 20 * y = omega (arith, eu, long, s.inner, s.least, s.m_high) in
    let a = mul-le-mul_left w steep in
    let b : u * (29 * w) ≤ u * (20 * z) = omega (arith, a, past) in
    let flat = le_of_mul-le-mul_left b (omega (arith, eu, near)) in
    let far = flat_far q z w ray.small flat in
    few_squares g (x + w) (gap y z) 200 320 (omega (arith, aside))
    (omega (arith, ints, far, high, long, low, near, k.out, k.near, k.small, s.inner, s.m_high, s.step)) (omega arith)

-- the joint (x, y) past the half axis, the end before it
pub small_back : (g q r h l m v x y ex ey : ℕ) → IsSmallSize g r h l m v → IsSmallRay g q r → IsRay q ex ey → v * v ≤ square x y → 2 * y ≤ g →
    2 * (ex + y) ≤ g + 40 → 2 * x ≤ 2 * ey + g + 2 * (g + 1) →
    IsFew g (ex + y) (gap ey x)
small_back g q r h l m v x y ex ey s z ray above near first second =
    let long = axes_long v x y above in
    let low = from_squares ey (q + 1) (omega (arith, ray.great)) in
    few_squares g (ex + y) (gap ey x) 100 225 (omega (arith, first, s.step)) (omega (arith, ints, long, low, near, second, z.out, s.inner, s.m_high, s.step))
    (omega arith)

-- both past it
beyond_across : (g r x y z w m v : ℕ) → 0 < g → v + m ≡ r → 9 * g ≤ 4 * r → 5 * m ≤ 4 * g → v ≤ x + y → 2 * y ≤ g → z ≤ r → x * w ≤ y * z → w ≤ 2 * g
beyond_across g r x y z w m v some er wide few long near low past =
    elim (cases_lt (2 * g) w) [
      | inr fine ↦ fine
      | inl more ↦ (
          let a = mul-le-mul_left x (let i : 2 * g + 1 ≤ w = omega (arith, more) in i) in
          let b = mul-le-mul_left z near in
          let c = mul-le-mul_left g low in
          let d : g * (4 * x) ≤ g * r = omega (arith, a, b, c, past) in
          let e = le_of_mul-le-mul_left d some in
          absurd (omega (arith, e, er, wide, few, long, near, some)))
    ]

pub small_beyond : (g q r h l m v x y z w : ℕ) → IsSmallSize g r h l m v → IsSmallRay g q r → IsRay q z w → v * v ≤ square x y → 2 * y ≤ g → x * w ≤ y * z →
    2 * x ≤ 2 * r + g → IsFew g (gap x z) (gap y w)
small_beyond g q r h l m v x y z w s k ray above near past high =
    let long = axes_long v x y above in
    let low = from_squares z (q + 1) (omega (arith, ray.great)) in
    let aside = beyond_across g r x y z w m v (omega (arith, s.step)) s.inner s.least s.m_high long near (omega (arith, low, k.out)) past in
    let steep : 29 * y ≤ 20 * x = omega (arith, near, long, s.inner, s.least, s.m_high) in
    let a = mul-le-mul_left z steep in
    let b : x * (29 * w) ≤ x * (20 * z) = omega (arith, a, past) in
    let flat = le_of_mul-le-mul_left b (omega (arith, near, long, s.inner, s.least, s.m_high, s.step)) in
    let far = flat_far q z w ray.small flat in
    few_squares g (gap x z) (gap y w) 320 200 (omega (arith, ints, far, high, long, low, near, k.out, k.near, k.small, s.inner, s.m_high, s.step))
    (omega (arith, ints, aside, near)) (omega arith)

-- ---- the joint and the end by quadrants

small_behind : (g q r p : ℕ) (b j e : Spoke) → IsPlacedJoint g p r b j → IsSmallRay g q r → IsRay q e.x e.y → IsBehind g r (g + 1) b j e
small_behind g q r p b j e h z ray = behind_joint g p q r (g + 1) b j e h ray z.out (omega (arith, z.near))

pub small_stands_way : (g q r h l m v p begun whole : ℕ) (steep : Bool) (b j e : Spoke) → IsSmallSize g r h l m v → IsSmallRay g q r → IsPlacedJoint g p r b j →
    IsNearJoint g r v steep j → IsRay q e.x e.y →
    IsReached b j e begun whole → SomeWay (IsFew g) j e
small_stands_way g q r h l m v p begun whole steep b j e s z placed near ray reach =
    let w = small_behind g q r p b j e placed z ray in
    settled_stands (IsFew g) b j e begun whole reach (record {
      here = λ same turn past. small_here g q r h l m v j.x j.y e.x e.y j s z ray (small_stands g r h l m v j s near.high near.low) (omega arith)
          (omega arith) past (w.first same turn) (w.second same turn);
      back = λ next turn. small_back g q r h l m v j.x j.y e.x e.y s z ray near.low (w.small_next next) (w.across next turn) (w.second_next next turn);
      beyond = λ next past. small_beyond g q r h l m v j.x j.y e.x e.y s z ray near.low (w.small_next next) past (w.high_next next);
    })

-- within its quadrant a move is at most a step along each axis
move_back : (g limit : ℕ) (steep : Bool) (j : Spoke) (roll : Roll) → IsEntry g limit steep j roll → g ≤ j.x →
    (j.x ≤ (rolled g roll j).x + g) × ((rolled g roll j).y ≤ j.y + g)
move_back g limit steep j Over entry inside = absurd (omega (arith, entry, inside))
move_back g limit steep j Outward entry inside = (omega arith, omega arith)
move_back g limit steep j Diagonal entry inside = (omega (arith, inside), omega arith)
move_back g limit steep j Inward entry inside = (omega (arith, inside), omega arith)

pub small_enters_way : (g q r h l m v p begun whole : ℕ) (steep : Bool) (b j e : Spoke) (roll : Roll) → IsSmallSize g r h l m v → IsSmallRay g q r →
    IsPlacedJoint g p r b j → IsNearJoint g r v steep j → IsRay q e.x e.y →
    cross (way_to b) (way_to j) <ℤ pos 0 → IsEntry g ((r + h) * (r + h)) steep j roll → IsReached b (rolled g roll j) e begun whole → SomeWay (IsFew g) j e
small_enters_way g q r h l m v p begun whole steep b j e roll s z placed near ray afterwards entry reach =
    let w = small_behind g q r p b j e placed z ray in
    settled_enters (IsFew g) g ((r + h) * (r + h)) steep b j e roll begun whole reach afterwards entry (record {
      here = λ same inside turn past. (
          let k = move_back g ((r + h) * (r + h)) steep j roll entry inside in
          small_here g q r h l m v j.x j.y e.x e.y (rolled g roll j) s z ray (small_enters g r h l m v steep j roll s near entry) k.0 k.1 past
          (w.first same turn) (w.second same turn));
      over_here = λ same less turn. small_over_here g q r h l m v j.x j.y e.x e.y s z ray near.low less (w.first same turn) (w.second same turn);
      over = λ same less past. small_over g q r h l m v j.x j.y e.x e.y s z ray near.low less past (w.high same);
      before = λ before less turn past. small_over g q r h l m v j.x j.y e.x e.y s z ray near.low less past (w.high_before before);
    })
