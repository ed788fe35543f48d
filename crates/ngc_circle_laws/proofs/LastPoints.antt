-- From the last point of a walk before the end's ray to the end.
use Rattle.std.proofs.Common.{◌≡◌, ℕ, ◌+◌, ◌-◌, ◌*◌, ◌<◌, ◌≤◌, ◌⊎◌, inl, inr, arith}
use Rattle.std.proofs.lemmas.Bool.{cases_lt}
use Rattle.ngc_circle_walk.specs.declared.spoke.Roll.{Roll}
use Rattle.ngc_circle_walk.specs.declared.spoke.Roll.TheVariants.{Outward, Diagonal, Inward, Over}
use Rattle.ngc_circle_walk.specs.declared.spoke.Spoke.{Spoke}
use Rattle.ngc_circle_walk.specs.Bounds.{IsBelow, IsAbove}
use Rattle.ngc_circle_walk.specs.Rolling.{quadrants_of}
use Rattle.ngc_circle_walk.specs.Wheel.{rolled, IsRoll}
use Rattle.ngc_circle_walk.proofs.NearEnd.{IsRim, IsRay, IsBeside, limit_of, last_near}
use Rattle.ngc_circle_walk.proofs.OverAxis.{next_near}
use Rattle.ngc_circle_walk.proofs.WheelProgress.{over_near}
use Rattle.ngc_circle_walk.proofs.SmallCircles.{IsSlim, apart, Reaches, last_here, last_over}
use Rattle.ngc_circle_laws.specs.ArcWalk.{IsBeforeEnd}

-- the position of a walk's last point, and its next move: the end is in its quadrant, or in the
-- next one and the move leads over the axis into it
pub record IsLast (g limit : ℕ) (s e : Spoke) (r : Roll) (here last : ℕ) : Type 0 where
  pub roll : IsRoll g limit s r
  pub before : IsBeforeEnd here last s e
  pub past : IsBeforeEnd (quadrants_of here r) last (rolled g r s) e → ⊥

pub record IsInOne (g limit : ℕ) (s e : Spoke) (r : Roll) : Type 0 where
  pub roll : IsRoll g limit s r
  pub before : s.y * e.x < s.x * e.y
  pub past : Reaches g s r e.x e.y

pub record IsInNext (g : ℕ) (s e : Spoke) : Type 0 where
  pub less : s.x < g
  pub past : s.y * e.y ≤ (g - s.x) * e.x

not_less : (m n : ℕ) → (m < n → ⊥) → n ≤ m
not_less m n h = elim (cases_lt m n) [
  | inl less ↦ absurd (h less)
  | inr more ↦ more
]

reaches : (g limit : ℕ) (s e : Spoke) (r : Roll) (here last : ℕ) → here ≡ last → (IsBeforeEnd (quadrants_of here r) last (rolled g r s) e → ⊥) →
    Reaches g s r e.x e.y
reaches g limit s e Over here last same past = tt
reaches g limit s e Outward here last same past = not_less ((s.y + g) * e.x) (s.x * e.y) (λ h. past (inr (same, h)))
reaches g limit s e Diagonal here last same past = not_less ((s.y + g) * e.x) ((s.x - g) * e.y) (λ h. past (inr (same, h)))
reaches g limit s e Inward here last same past = not_less (s.y * e.x) ((s.x - g) * e.y) (λ h. past (inr (same, h)))

into_next : (g limit : ℕ) (s e : Spoke) (r : Roll) (here last : ℕ) → IsRoll g limit s r → here < last →
    (IsBeforeEnd (quadrants_of here r) last (rolled g r s) e → ⊥) → (here + 1 ≡ last) × IsInNext g s e
into_next g limit s e Outward here last roll less past = absurd (past (inl less))
into_next g limit s e Diagonal here last roll less past = absurd (past (inl less))
into_next g limit s e Inward here last roll less past = absurd (past (inl less))
into_next g limit s e Over here last roll less past =
    let same : here + 1 ≡ last = elim (cases_lt (here + 1) last) [
      | inl more ↦ absurd (past (inl more))
      | inr few ↦ omega (arith, less, few)
    ] in
    (same, record { less = roll; past = omega (arith, not_less ((g - s.x) * e.x) (s.y * e.y) (λ h. past (inr (same, h)))) })

pub last_is : (g limit : ℕ) (s e : Spoke) (r : Roll) (here last : ℕ) → IsLast g limit s e r here last →
    ((here ≡ last) × IsInOne g limit s e r) ⊎ ((here + 1 ≡ last) × IsInNext g s e)
last_is g limit s e r here last h = elim h.before [
  | inl less ↦ inr (into_next g limit s e r here last h.roll less h.past)
  | inr same ↦ inl (same.0, record { roll = h.roll; before = same.1; past = reaches g limit s e r here last same.0 h.past })
]

-- ---- circles of at least eight steps: less than one and a half steps from the end on both axes

large_one : (g q h k l v : ℕ) (s e : Spoke) (r : Roll) → IsRim g q h k l v → IsRay q e.x e.y → IsBelow g (limit_of q l) s → IsAbove g v s →
    IsInOne g (limit_of q h) s e r → IsBeside g s.x e.x × IsBeside g s.y e.y
large_one g q h k l v s e Over z ray below above i = over_near g q h k l v s e.x e.y z ray below above i.roll i.before
large_one g q h k l v s e Outward z ray below above i = let n = last_near g q h k l v s Outward e.x e.y z ray below above i.roll.0 i.roll i.before i.past in
    (n.along_x, n.along_y)
large_one g q h k l v s e Diagonal z ray below above i = let n = last_near g q h k l v s Diagonal e.x e.y z ray below above i.roll.0 i.roll i.before i.past in
    (n.along_x, n.along_y)
large_one g q h k l v s e Inward z ray below above i = let n = last_near g q h k l v s Inward e.x e.y z ray below above i.roll.0 i.roll i.before i.past in
    (n.along_x, n.along_y)

pub large_last : (g q h k l v : ℕ) (s e : Spoke) (r : Roll) (here last : ℕ) → IsRim g q h k l v → IsRay q e.x e.y → IsBelow g (limit_of q l) s → IsAbove g v s →
    IsLast g (limit_of q h) s e r here last →
    ((here ≡ last) × (IsBeside g s.x e.x × IsBeside g s.y e.y)) ⊎ ((here + 1 ≡ last) × ((2 * (s.x + e.y) < 3 * g) × IsBeside g s.y e.x))
large_last g q h k l v s e r here last z ray below above i = elim (last_is g (limit_of q h) s e r here last i) [
  | inl one ↦ inl (one.0, large_one g q h k l v s e r z ray below above one.1)
  | inr next ↦ inr (next.0, next_near g q h k l v s e.x e.y z ray below above next.1.less next.1.past)
]

-- ---- smaller ones: the squared distance is at most fifteen times a step's

pub small_last : (g q limit : ℕ) (s e : Spoke) (r : Roll) (here last : ℕ) → IsSlim g q s.x s.y → IsRay q e.x e.y → IsLast g limit s e r here last →
    ((here ≡ last) × (apart s.x e.x * apart s.x e.x + apart s.y e.y * apart s.y e.y ≤ 15 * (g * g))) ⊎
    ((here + 1 ≡ last) × ((s.x + e.y) * (s.x + e.y) + apart s.y e.x * apart s.y e.x ≤ 15 * (g * g)))
small_last g q limit s e r here last slim ray i = elim (last_is g limit s e r here last i) [
  | inl one ↦ inl (one.0, last_here g q limit s r e.x e.y slim ray one.1.roll (omega (arith, one.1.before)) one.1.past)
  | inr next ↦ inr (next.0, last_over g q s e.x e.y slim ray next.1.less next.1.past)
]
