-- How far a rounded point of intersection is from a line.
use Rattle.std.proofs.Common.{◌≡◌, ◌≢◌, ℕ, ◌+◌, ◌*◌, ◌≤◌, ◌<◌, ℤ, pos, ◌+ℤ◌, ◌-ℤ◌, ◌*ℤ◌, unsigned_abs, arith, ap, sym, ◌∙◌, refl, inl, inr}
use Rattle.std.proofs.lemmas.Bool.{cases_lt}
use Rattle.std.proofs.lemmas.Int.{ints, unsigned_abs-mul}
use Rattle.std.proofs.lemmas.Nat.{mul-le}
use Rattle.std.proofs.Math.IntN.{*ℤ_comm}
use Rattle.ngc_compensation.proofs.Products.{times_sum, sum_times, swapped, grouped, times_difference}

-- x times the distance from a line, by the rounding errors e and f of p and q
distance_is : (c d s t x r p q e f : ℤ) → (c *ℤ s) +ℤ (d *ℤ t) ≡ x → p *ℤ x ≡ (s *ℤ r) -ℤ e → q *ℤ x ≡ (t *ℤ r) -ℤ f →
    (x *ℤ (((c *ℤ p) +ℤ (d *ℤ q)) -ℤ r)) +ℤ ((c *ℤ e) +ℤ (d *ℤ f)) ≡ pos 0
distance_is c d s t x r p q e f whole pe qf =
    let split = times_difference x ((c *ℤ p) +ℤ (d *ℤ q)) r in
    let both = times_sum x (c *ℤ p) (d *ℤ q) in
    let cp : x *ℤ (c *ℤ p) ≡ c *ℤ ((s *ℤ r) -ℤ e) = swapped x c p ∙ ap (λ z. c *ℤ z) (*ℤ_comm x p ∙ pe) in
    let dq : x *ℤ (d *ℤ q) ≡ d *ℤ ((t *ℤ r) -ℤ f) = swapped x d q ∙ ap (λ z. d *ℤ z) (*ℤ_comm x q ∙ qf) in
    let ce = times_difference c (s *ℤ r) e in
    let df = times_difference d (t *ℤ r) f in
    let cs = grouped c s r in
    let dt = grouped d t r in
    let xr : x *ℤ r ≡ ((c *ℤ s) *ℤ r) +ℤ ((d *ℤ t) *ℤ r) = ap (λ z. z *ℤ r) (sym whole) ∙ sum_times (c *ℤ s) (d *ℤ t) r in
    omega (arith, ints, split, both, cp, dq, ce, df, cs, dt, xr)

opposite_size : (x y z : ℤ) → x +ℤ (y +ℤ z) ≡ pos 0 → unsigned_abs x ≤ unsigned_abs y + unsigned_abs z
opposite_size x y z h = omega (arith, ints, h)

within_factor : (n d s : ℕ) → 0 < n → n * d ≤ s * n → d ≤ s
within_factor n d s some h =
    elim (cases_lt s d) [
      | inl more ↦ (let p : n * (s + 1) ≤ n * d = mul-le n (s + 1) n d (omega arith) (omega arith) in absurd (omega arith))
      | inr less ↦ less
    ]

sizes : (n x m c d e f : ℕ) → n * m ≤ c * e + d * f → c ≤ x → d ≤ x → 2 * e ≤ n → 2 * f ≤ n → n * m ≤ x * n
sizes n x m c d e f h cx dx en fn =
    let p = mul-le c e x e cx (omega arith) in
    let q = mul-le d f x f dx (omega arith) in
    let r = mul-le x (2 * e) x n (omega arith) en in
    let s = mul-le x (2 * f) x n (omega arith) fn in
    omega (arith, h, p, q, r, s)

-- the distance is at most the limit of c and d
pub distance_small : (unit : ℕ) (c d s t x r p q : ℤ) → 0 < unsigned_abs x → (c *ℤ s) +ℤ (d *ℤ t) ≡ x → unsigned_abs c ≤ unit → unsigned_abs d ≤ unit →
    2 * unsigned_abs ((s *ℤ r) -ℤ (p *ℤ x)) ≤ unsigned_abs x → 2 * unsigned_abs ((t *ℤ r) -ℤ (q *ℤ x)) ≤ unsigned_abs x →
    unsigned_abs (((c *ℤ p) +ℤ (d *ℤ q)) -ℤ r) ≤ unit
distance_small unit c d s t x r p q some whole cu du pn qn =
    let e = (s *ℤ r) -ℤ (p *ℤ x) in
    let f = (t *ℤ r) -ℤ (q *ℤ x) in
    let m = ((c *ℤ p) +ℤ (d *ℤ q)) -ℤ r in
    let is = distance_is c d s t x r p q e f whole (omega (arith, ints)) (omega (arith, ints)) in
    let size = opposite_size (x *ℤ m) (c *ℤ e) (d *ℤ f) is in
    let xm = unsigned_abs-mul x m in
    let ce = unsigned_abs-mul c e in
    let df = unsigned_abs-mul d f in
    within_factor (unsigned_abs x) (unsigned_abs m) unit some
    (sizes (unsigned_abs x) unit (unsigned_abs m) (unsigned_abs c) (unsigned_abs d) (unsigned_abs e) (unsigned_abs f) (omega (arith, size, xm, ce, df)) cu du pn qn)
