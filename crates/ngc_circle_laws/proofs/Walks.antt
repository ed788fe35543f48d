-- Walks of a wheel round an arc's centre, from the start's ray to the end's: all their points are in the sector, and no move turns back.
use Rattle.std.proofs.Common.{◌≡◌, ℕ, zero, suc, ◌+◌, ◌-◌, ◌*◌, ◌<◌, ◌≤◌, pos, ◌≤ℤ◌, ◌⊎◌, inl, inr, refl, sym, ◌∙◌, ap, subst, arith}
use Rattle.std.specs.Prelude.{true}
use Rattle.std.proofs.lemmas.Bool.{cases_lt}
use Rattle.std.proofs.lemmas.Int.{ints}
use Rattle.std.proofs.Math.Nat.{mul-le-mul_left}
use Rattle.ngc_circle_walk.specs.declared.spoke.Quadrant.{Quadrant}
use Rattle.ngc_circle_walk.specs.declared.spoke.Roll.{Roll}
use Rattle.ngc_circle_walk.specs.declared.spoke.Roll.TheVariants.{Outward, Diagonal, Inward, Over}
use Rattle.ngc_circle_walk.specs.declared.spoke.Spoke.{Spoke}
use Rattle.ngc_circle_walk.specs.Wheel.{rolled, IsRoll}
use Rattle.ngc_circle_walk.specs.Quadrants.{following}
use Rattle.ngc_circle_walk.proofs.QuadrantTurns.{cross_same, over_turns}
use Rattle.ngc_circle_walk.specs.Directions.{IsNoLater}
use Rattle.ngc_circle_walk.proofs.WheelProgress.{turns_on}
use Rattle.ngc_circle_walk.specs.Rolling.{quadrants_of, IsRolling}
use Rattle.ngc_arc_geometry.specs.Shape.{ArcShape}
use Rattle.ngc_arc_geometry.specs.Sector.{turn_from, in_sector}
use Rattle.ngc_circle_laws.specs.Placed.{placed, turned_by, IsATurn}
use Rattle.ngc_circle_laws.specs.ArcWalk.{IsBeforeEnd, IsWalk}
use Rattle.ngc_circle_laws.proofs.CrossProducts.{turn_placed}
use Rattle.ngc_circle_laws.proofs.Sectors.{turned_sum, in_round}

-- ---- one move

-- no move leads to the centre
stays_out : (g limit : ℕ) (s : Spoke) (r : Roll) → 0 < g → g * g ≤ limit → 0 < s.x + s.y → IsRoll g limit s r → 0 < (rolled g r s).x + (rolled g r s).y
stays_out g limit s Outward some room out roll = omega (arith, some)
stays_out g limit s Diagonal some room out roll = omega (arith, some)
stays_out g limit s Inward some room out roll =
    elim (cases_lt 0 (s.x - g + s.y)) [
      | inl fine ↦ fine
      | inr none ↦ (
          let x : s.x - g ≡ 0 = omega (arith, none) in
          let y : s.y ≡ 0 = omega (arith, none) in
          let small : limit < 0 * 0 + (0 + g) * (0 + g) = rw (x, y) at roll.1 in
          absurd (omega (arith, small, room)))
    ]
stays_out g limit s Over some room out roll = omega (arith, roll)

-- a point at or past a ray in its quadrant stays so
stays_past : (bx by x y x' y' : ℕ) → x' ≤ x → y ≤ y' → by * x ≤ bx * y → by * x' ≤ bx * y'
stays_past bx by x y x' y' hx hy h = let p = mul-le-mul_left by hx in let q = mul-le-mul_left bx hy in omega (arith, h, p, q)

-- a point in a later quadrant is past the ray
later : (m x y z w : ℕ) → 0 < m → IsNoLater m x y z w
later zero x y z w h = absurd (omega (arith, h))
later (suc m) x y z w h = tt

no_later_on : (g limit : ℕ) (s : Spoke) (r : Roll) (m bx by : ℕ) → IsRoll g limit s r → IsNoLater m bx by s.x s.y →
    IsNoLater (quadrants_of m r) bx by (rolled g r s).x (rolled g r s).y
no_later_on g limit s Outward zero bx by roll h = stays_past bx by s.x s.y s.x (s.y + g) (omega arith) (omega arith) h
no_later_on g limit s Diagonal zero bx by roll h = stays_past bx by s.x s.y (s.x - g) (s.y + g) (omega arith) (omega arith) h
no_later_on g limit s Inward zero bx by roll h = stays_past bx by s.x s.y (s.x - g) s.y (omega arith) (omega arith) h
no_later_on g limit s Outward (suc m) bx by roll h = tt
no_later_on g limit s Diagonal (suc m) bx by roll h = tt
no_later_on g limit s Inward (suc m) bx by roll h = tt
no_later_on g limit s Over m bx by roll h = later (m + 1) bx by s.y (g - s.x) (omega arith)

quadrants_sum : (m n : ℕ) (r : Roll) → m + quadrants_of n r ≡ quadrants_of (m + n) r
quadrants_sum m n Outward = refl
quadrants_sum m n Diagonal = refl
quadrants_sum m n Inward = refl
quadrants_sum m n Over = omega arith

quadrant_rolled : (g m : ℕ) (q : Quadrant) (s : Spoke) (r : Roll) → s.quadrant ≡ turned_by m q → (rolled g r s).quadrant ≡ turned_by (quadrants_of m r) q
quadrant_rolled g m q s Outward h = h
quadrant_rolled g m q s Diagonal h = h
quadrant_rolled g m q s Inward h = h
quadrant_rolled g m q s Over h = let e : suc m ≡ m + 1 = omega arith in ap following h ∙ ap (λ k. turned_by k q) e

fewer : (x' y' x y ex ey : ℕ) → x' ≤ x → y ≤ y' → y' * ex < x' * ey → y * ex < x * ey
fewer x' y' x y ex ey hx hy h = let p = mul-le-mul_left ey hx in let q = mul-le-mul_left ex hy in omega (arith, h, p, q)

-- a point that is before the end's ray after a move was before it earlier
was_before : (g limit : ℕ) (s e : Spoke) (r : Roll) (here last : ℕ) → IsRoll g limit s r → IsBeforeEnd (quadrants_of here r) last (rolled g r s) e →
    IsBeforeEnd here last s e
was_before g limit s e Outward here last roll (inl less) = inl less
was_before g limit s e Outward here last roll (inr h) = inr (h.0, fewer s.x (s.y + g) s.x s.y e.x e.y (omega arith) (omega arith) h.1)
was_before g limit s e Diagonal here last roll (inl less) = inl less
was_before g limit s e Diagonal here last roll (inr h) = inr (h.0, fewer (s.x - g) (s.y + g) s.x s.y e.x e.y (omega arith) (omega arith) h.1)
was_before g limit s e Inward here last roll (inl less) = inl less
was_before g limit s e Inward here last roll (inr h) = inr (h.0, fewer (s.x - g) s.y s.x s.y e.x e.y (omega arith) (omega arith) h.1)
was_before g limit s e Over here last roll (inl less) = inl (omega (arith, less))
was_before g limit s e Over here last roll (inr h) = inl (omega (arith, h.0))

along_quadrant : (a : ArcShape) (s : Spoke) (x y : ℕ) → s.y * x ≤ s.x * y →
    pos 0 ≤ℤ turn_from a (placed a s) (placed a (record { quadrant = s.quadrant; x = x; y = y }))
along_quadrant a s x y h =
    let e = turn_placed a s (record { quadrant = s.quadrant; x = x; y = y }) ∙ cross_same s.quadrant s.x s.y x y in
    subst (λ z. pos 0 ≤ℤ z) (sym e) (omega (arith, ints, h))

turns : (a : ArcShape) (g limit : ℕ) (s : Spoke) (r : Roll) → IsRoll g limit s r → pos 0 ≤ℤ turn_from a (placed a s) (placed a (rolled g r s))
turns a g limit s Outward roll = along_quadrant a s s.x (s.y + g) (turns_on g limit s Outward roll.0 roll)
turns a g limit s Diagonal roll = along_quadrant a s (s.x - g) (s.y + g) (turns_on g limit s Diagonal roll.0 roll)
turns a g limit s Inward roll = along_quadrant a s (s.x - g) s.y (turns_on g limit s Inward roll.0 roll)
turns a g limit s Over roll =
    let e = turn_placed a s (rolled g Over s) ∙ over_turns s.quadrant g s.x s.y (omega (arith, roll)) in
    subst (λ z. pos 0 ≤ℤ z) (sym e) (omega (arith, ints))

-- ---- all moves

pub quadrant_on : (g limit n : ℕ) (at : ℕ → Spoke) (quadrant : ℕ → ℕ) (k : ℕ) → IsRolling g limit n at quadrant → k ≤ n →
    (at k).quadrant ≡ turned_by (quadrant k) (at 0).quadrant
quadrant_on g limit n at quadrant zero way le = sym (ap (λ m. turned_by m (at 0).quadrant) way.starts)
quadrant_on g limit n at quadrant (suc k) way le =
    let e : k + 1 ≡ suc k = omega arith in
    let step = way.rolls k (omega (arith, le)) in
    let here = quadrant_on g limit n at quadrant k way (omega (arith, le)) in
    let there = quadrant_rolled g (quadrant k) (at 0).quadrant (at k) step.0 here in
    subst (λ t. (at t).quadrant ≡ turned_by (quadrant t) (at 0).quadrant) e
    (ap (λ (s : Spoke). s.quadrant) step.2 ∙ there ∙ sym (ap (λ m. turned_by m (at 0).quadrant) step.3))

pub out_on : (g limit n : ℕ) (at : ℕ → Spoke) (quadrant : ℕ → ℕ) (k : ℕ) → IsRolling g limit n at quadrant → 0 < g → g * g ≤ limit → 0 < (at 0).x + (at 0).y →
    k ≤ n → 0 < (at k).x + (at k).y
out_on g limit n at quadrant zero way some room out le = out
out_on g limit n at quadrant (suc k) way some room out le =
    let e : k + 1 ≡ suc k = omega arith in
    let step = way.rolls k (omega (arith, le)) in
    let here = out_on g limit n at quadrant k way some room out (omega (arith, le)) in
    subst (λ t. 0 < (at t).x + (at t).y) e
    (subst (λ (s : Spoke). 0 < s.x + s.y) (sym step.2) (stays_out g limit (at k) step.0 some room here step.1))

pub past_on : (g limit n : ℕ) (at : ℕ → Spoke) (quadrant : ℕ → ℕ) (k begun bx by : ℕ) → IsRolling g limit n at quadrant →
    IsNoLater begun bx by (at 0).x (at 0).y → k ≤ n →
    IsNoLater (begun + quadrant k) bx by (at k).x (at k).y
past_on g limit n at quadrant zero begun bx by way first le =
    let z : begun ≡ begun + quadrant 0 = omega (arith, way.starts) in
    subst (λ m. IsNoLater m bx by (at 0).x (at 0).y) z first
past_on g limit n at quadrant (suc k) begun bx by way first le =
    let e : k + 1 ≡ suc k = omega arith in
    let step = way.rolls k (omega (arith, le)) in
    let here = past_on g limit n at quadrant k begun bx by way first (omega (arith, le)) in
    let there = no_later_on g limit (at k) step.0 (begun + quadrant k) bx by step.1 here in
    let count : quadrants_of (begun + quadrant k) step.0 ≡ begun + quadrant (k + 1) =
    sym (ap (λ m. begun + m) step.3 ∙ quadrants_sum begun (quadrant k) step.0) in
    subst (λ t. IsNoLater (begun + quadrant t) bx by (at t).x (at t).y) e
    (subst (λ m. IsNoLater m bx by (at (k + 1)).x (at (k + 1)).y) count
    (subst (λ (s : Spoke). IsNoLater (quadrants_of (begun + quadrant k) step.0) bx by s.x s.y) (sym step.2) there))

pub before_on : (g limit n : ℕ) (at : ℕ → Spoke) (quadrant : ℕ → ℕ) (d k left : ℕ) (e : Spoke) → IsRolling g limit n at quadrant →
    IsBeforeEnd (quadrant n) left (at n) e → k + d ≡ n →
    IsBeforeEnd (quadrant k) left (at k) e
before_on g limit n at quadrant zero k left e way last sum =
    let same : n ≡ k = omega (arith, sum) in
    subst (λ t. IsBeforeEnd (quadrant t) left (at t) e) same last
before_on g limit n at quadrant (suc d) k left e way last sum =
    let step = way.rolls k (omega (arith, sum)) in
    let after = before_on g limit n at quadrant d (k + 1) left e way last (omega (arith, sum)) in
    let there = subst (λ (s : Spoke). IsBeforeEnd (quadrant (k + 1)) left s e) step.2 after in
    was_before g limit (at k) e step.0 (quadrant k) left step.1 (subst (λ m. IsBeforeEnd m left (rolled g step.0 (at k)) e) step.3 there)

pub no_later_end : (here last : ℕ) (s e : Spoke) → IsBeforeEnd here last s e → IsNoLater (last - here) s.x s.y e.x e.y
no_later_end here last s e (inl less) = later (last - here) s.x s.y e.x e.y (omega (arith, less))
no_later_end here last s e (inr h) = let z : 0 ≡ last - here = omega (arith, h.0) in subst (λ m. IsNoLater m s.x s.y e.x e.y) z (omega (arith, h.1))

pub no_more : (here last : ℕ) (s e : Spoke) → IsBeforeEnd here last s e → here ≤ last
no_more here last s e (inl less) = omega (arith, less)
no_more here last s e (inr h) = omega (arith, h.0)

pub few_on : (a : ArcShape) (g limit n : ℕ) (at : ℕ → Spoke) (quadrant : ℕ → ℕ) (b e : Spoke) (begun left k : ℕ) →
    IsWalk a g limit n at quadrant b e begun left → k ≤ n → quadrant k ≤ left
few_on a g limit n at quadrant b e begun left k w le =
    no_more (quadrant k) left (at k) e (before_on g limit n at quadrant (n - k) k left e w.rolling w.before_end (omega (arith, le)))

-- all points of a walk lie in the arc's sector
pub walk_in_sector : (a : ArcShape) (g limit n : ℕ) (at : ℕ → Spoke) (quadrant : ℕ → ℕ) (b e : Spoke) (begun left k : ℕ) →
    IsWalk a g limit n at quadrant b e begun left → k ≤ n →
    in_sector a (placed a (at k)) ≡ true
walk_in_sector a g limit n at quadrant b e begun left k w le =
    let before = before_on g limit n at quadrant (n - k) k left e w.rolling w.before_end (omega (arith, le)) in
    let few = no_more (quadrant k) left (at k) e before in
    let here = quadrant_on g limit n at quadrant k w.rolling le in
    let hp : (at k).quadrant ≡ turned_by (begun + quadrant k) b.quadrant =
    here ∙ ap (turned_by (quadrant k)) w.begins ∙ turned_sum begun (quadrant k) b.quadrant in
    let rest : quadrant k + (left - quadrant k) ≡ left = omega (arith, few) in
    let he : e.quadrant ≡ turned_by (left - quadrant k) (at k).quadrant =
    w.to_end ∙ sym (ap (turned_by (left - quadrant k)) here ∙ turned_sum (quadrant k) (left - quadrant k) (at 0).quadrant
    ∙ ap (λ m. turned_by m (at 0).quadrant) rest) in
    let whole : begun + left ≡ (begun + quadrant k) + (left - quadrant k) = omega (arith, few) in
    in_round a b (at k) e (begun + quadrant k) (left - quadrant k) w.start w.end hp he w.start_out
    (out_on g limit n at quadrant k w.rolling w.some_step w.room w.some_place le) w.end_out
    (past_on g limit n at quadrant k begun b.x b.y w.rolling w.past_start le) (no_later_end (quadrant k) left (at k) e before)
    (subst (λ m. IsATurn m b.x b.y e.x e.y) whole w.turn)

-- no move of a wheel turns back
pub walk_goes_on : (a : ArcShape) (g limit n : ℕ) (at : ℕ → Spoke) (quadrant : ℕ → ℕ) (k : ℕ) → IsRolling g limit n at quadrant → k < n →
    pos 0 ≤ℤ turn_from a (placed a (at k)) (placed a (at (k + 1)))
walk_goes_on a g limit n at quadrant k way le =
    let step = way.rolls k le in
    subst (λ (s : Spoke). pos 0 ≤ℤ turn_from a (placed a (at k)) (placed a s)) (sym step.2) (turns a g limit (at k) step.0 step.1)

-- the last point before the end's ray is in the end's quadrant, or less than a step before that
-- quadrant
pub ends_there : (g limit : ℕ) (s e : Spoke) (r : Roll) (here last : ℕ) → IsRoll g limit s r → IsBeforeEnd here last s e →
    (IsBeforeEnd (quadrants_of here r) last (rolled g r s) e → ⊥) →
    (here ≡ last) ⊎ ((here + 1 ≡ last) × (s.x < g))
ends_there g limit s e Outward here last roll (inl less) past = absurd (past (inl less))
ends_there g limit s e Diagonal here last roll (inl less) past = absurd (past (inl less))
ends_there g limit s e Inward here last roll (inl less) past = absurd (past (inl less))
ends_there g limit s e Over here last roll (inl less) past =
    elim (cases_lt (here + 1) last) [
      | inl more ↦ absurd (past (inl more))
      | inr few ↦ inr (omega (arith, less, few), roll)
    ]
ends_there g limit s e r here last roll (inr h) past = inl h.0
