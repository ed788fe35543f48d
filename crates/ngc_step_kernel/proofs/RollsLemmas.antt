-- A walk that stops when it reaches the end's direction.
use Rattle.std.proofs.Common.{◌≡◌, ℕ, suc, ◌+◌, ◌-◌, ◌*◌, ◌<◌, ◌≤◌, inl, inr, sym, ◌∙◌, ap, subst, arith}
use Rattle.std.specs.Prelude.{true, false, Some, None}
use Rattle.std.proofs.lemmas.Bool.{cases_lt}
use Rattle.ngc_circle_walk.specs.declared.spoke.Roll.{Roll}
use Rattle.ngc_circle_walk.specs.declared.spoke.Roll.TheVariants.{Outward, Diagonal, Inward, Over}
use Rattle.ngc_circle_walk.specs.declared.spoke.Spoke.{Spoke}
use Rattle.ngc_circle_walk.specs.Rolling.{spoke_at, quadrant_at, quadrants_of}
use Rattle.ngc_circle_walk.specs.Wheel.{IsRoll, is_before, next_roll}
use Rattle.ngc_circle_walk.proofs.OneRoll.{only_roll}
use Rattle.ngc_circle_walk.proofs.Wheeling.{next_quadrant, first_quadrant, first_spoke}
use Rattle.ngc_circle_laws.specs.ArcWalk.{IsBeforeEnd}
use Rattle.ngc_step_kernel.specs.Left.{IsLeftAfter}

-- what is known of a point of a walk: the number of remaining quadrants, and that it is before the
-- end
pub record IsBefore (g limit : ℕ) (s e : Spoke) (quadrants left k : ℕ) : Type 0 where
  pub count : left + quadrant_at g limit s k ≡ quadrants
  pub before : IsBeforeEnd (quadrant_at g limit s k) quadrants (spoke_at g limit s k) e

pub before_first : (g limit : ℕ) (s e : Spoke) (quadrants : ℕ) → IsBeforeEnd 0 quadrants s e → IsBefore g limit s e quadrants quadrants 0
before_first g limit s e quadrants h =
    let q = first_quadrant g limit s in
    record {
      count = omega (arith, q);
      before = subst (λ n. IsBeforeEnd n quadrants (spoke_at g limit s 0) e) (sym q)
          (subst (λ (w : Spoke). IsBeforeEnd 0 quadrants w e) (sym (first_spoke g limit s)) h);
    }

pub quadrant_on : (g limit : ℕ) (s w : Spoke) (r : Roll) (k pace rim : ℕ) → pace ≡ g → rim ≡ limit → w ≡ spoke_at g limit s k → IsRoll pace rim w r →
    quadrant_at g limit s (k + 1) ≡ quadrants_of (quadrant_at g limit s k) r
quadrant_on g limit s w r k pace rim paces rims here roll =
    let same = only_roll g limit w r (rw (paces, rims) at roll) in
    let e : suc k ≡ k + 1 = omega arith in
    let next = next_quadrant g limit s k in
    let due : next_roll g limit (spoke_at g limit s k) ≡ r = sym (same ∙ ap (next_roll g limit) here) in
    subst (λ t. quadrant_at g limit s t ≡ quadrants_of (quadrant_at g limit s k) r) e (next ∙ ap (quadrants_of (quadrant_at g limit s k)) due)

counted : (r : Roll) (m q left all : ℕ) → quadrants_of m r ≡ left → left + q ≡ all → m + quadrants_of q r ≡ all
counted Outward m q left all h e = omega (arith, h, e)
counted Diagonal m q left all h e = omega (arith, h, e)
counted Inward m q left all h e = omega (arith, h, e)
counted Over m q left all h e = omega (arith, h, e)

counted_back : (r : Roll) (m q left all : ℕ) → m + quadrants_of q r ≡ all → left + q ≡ all → quadrants_of m r ≡ left
counted_back Outward m q left all h e = omega (arith, h, e)
counted_back Diagonal m q left all h e = omega (arith, h, e)
counted_back Inward m q left all h e = omega (arith, h, e)
counted_back Over m q left all h e = omega (arith, h, e)

pub reported_before : (s e : Spoke) → is_before s e ≡ true → s.y * e.x < s.x * e.y
reported_before s e h = elim (cases_lt (s.y * e.x) (s.x * e.y)) [
  | inl fine ↦ fine
  | inr more ↦ absurd (grind (arith, h, more))
]

pub told_past : (s e : Spoke) → is_before s e ≡ false → s.x * e.y ≤ s.y * e.x
told_past s e h = elim (cases_lt (s.y * e.x) (s.x * e.y)) [
  | inr fine ↦ fine
  | inl less ↦ absurd (grind (arith, h, less))
]

-- one more move
pub before_on : (g limit : ℕ) (s e w v : Spoke) (r : Roll) (quadrants left m k pace rim : ℕ) → IsBefore g limit s e quadrants left k → pace ≡ g → rim ≡ limit →
    w ≡ spoke_at g limit s k → IsRoll pace rim w r →
    v ≡ spoke_at g limit s (k + 1) → IsLeftAfter left r v e (Some m) → IsBefore g limit s e quadrants m (k + 1)
before_on g limit s e w v r quadrants left m k pace rim b paces rims here roll there h =
    let q = quadrant_on g limit s w r k pace rim paces rims here roll in
    let sum = counted r m (quadrant_at g limit s k) left quadrants h.0 b.count in
    let count : m + quadrant_at g limit s (k + 1) ≡ quadrants = omega (arith, q, sum) in
    record {
      count = count;
      before = elim h.1 [
        | inl some ↦ inl (omega (arith, count, some))
        | inr told ↦ elim (cases_lt 0 m) [
          | inl some ↦ inl (omega (arith, count, some))
          | inr none ↦ inr (omega (arith, count, none), subst (λ (z : Spoke). z.y * e.x < z.x * e.y) there (reported_before v e told))
        ]
      ];
    }

-- or the end's direction is reached
pub past_on : (g limit : ℕ) (s e w v : Spoke) (r : Roll) (quadrants left k pace rim : ℕ) → IsBefore g limit s e quadrants left k → pace ≡ g → rim ≡ limit →
    w ≡ spoke_at g limit s k → IsRoll pace rim w r →
    v ≡ spoke_at g limit s (k + 1) → IsLeftAfter left r v e None → IsBeforeEnd (quadrant_at g limit s (k + 1)) quadrants (spoke_at g limit s (k + 1)) e → ⊥
past_on g limit s e w v r quadrants left k pace rim b paces rims here roll there h (inl less) =
    let q = quadrant_on g limit s w r k pace rim paces rims here roll in
    let m = quadrants - quadrant_at g limit s (k + 1) in
    let back = counted_back r m (quadrant_at g limit s k) left quadrants (omega (arith, q, less)) b.count in
    omega (arith, (h m back).0, less)
past_on g limit s e w v r quadrants left k pace rim b paces rims here roll there h (inr last) =
    let q = quadrant_on g limit s w r k pace rim paces rims here roll in
    let back = counted_back r 0 (quadrant_at g limit s k) left quadrants (omega (arith, q, last.0)) b.count in
    let past = told_past v e (h 0 back).1 in
    let past' : (spoke_at g limit s (k + 1)).x * e.y ≤ (spoke_at g limit s (k + 1)).y * e.x = subst (λ (z : Spoke). z.x * e.y ≤ z.y * e.x) there past in
    omega (arith, past', last.1)
