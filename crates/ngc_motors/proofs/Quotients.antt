-- Quotients that are rounded down, and the laws of counts.
use Rattle.std.proofs.Common.{◌≡◌, ℕ, zero, suc, ◌+◌, ◌*◌, ◌/◌, ◌<◌, arith, ℤ, pos, negsuc, ◌+ℤ◌, ◌-ℤ◌, ◌*ℤ◌, ◌≤ℤ◌, ap, ◌∙◌}
use Rattle.std.specs.Prelude.{◌<ℤ◌}
use Rattle.std.specs.Int.{int_div_euclid}
use Rattle.std.proofs.lemmas.Int.{ints, by_lt_z}
use Rattle.std.proofs.lemmas.Nat.{le-div, div_below, div-add-mod', mod_below, mul-le}
use Rattle.ngc_motors.specs.Counts.{commanded_parts, nearest}
use Rattle.ngc_motors.specs.Laws.{CountIsNearest, CountMovesByOne, CountOfWhole, CountRises, PlaceIsBetween, parts}

-- a number that fits n times is at most the quotient
pub fits : (n : ℕ) (q z : ℤ) → 0 < n → (q *ℤ pos n) ≤ℤ z → q ≤ℤ int_div_euclid z (pos n)
fits n (pos m) (pos a) some h = let i = le-div m a n some (omega (arith, ints, h)) in omega (arith, ints, i)
fits n (pos m) (negsuc a) some h = absurd (omega (arith, ints, h))
fits n (negsuc m) (pos a) some h = omega (arith, ints)
fits n (negsuc m) (negsuc a) some h = let i = div_below a n (suc m) some (omega (arith, ints, h)) in omega (arith, ints, i)

-- the quotient fits
pub least : (n : ℕ) (z : ℤ) → 0 < n → (int_div_euclid z (pos n) *ℤ pos n) ≤ℤ z
least n (pos a) some = let whole = div-add-mod' a n in omega (arith, ints)
least n (negsuc a) some =
    let whole = div-add-mod' a n in
    let rest = mod_below a n some in
    let product : suc (a / n) * n ≡ a / n * n + n = omega arith in
    omega (arith, ints)

-- and the remainder is less than the divisor
pub greatest : (n : ℕ) (z : ℤ) → 0 < n → z <ℤ ((int_div_euclid z (pos n) *ℤ pos n) +ℤ pos n)
greatest n (pos a) some = let whole = div-add-mod' a n in let rest = mod_below a n some in omega (arith, ints)
greatest n (negsuc a) some =
    let whole = div-add-mod' a n in
    let rest = mod_below a n some in
    let product : suc (a / n) * n ≡ a / n * n + n = omega arith in
    omega (arith, ints)

-- ---- products

one_less : (n : ℕ) (q : ℤ) → (q -ℤ pos 1) *ℤ pos n ≡ (q *ℤ pos n) -ℤ pos n
one_less n (pos zero) = omega (arith, ints)
one_less n (pos (suc m)) =
    let less : pos (suc m) -ℤ pos 1 ≡ pos m = omega (arith, ints) in
    let product : suc m * n ≡ m * n + n = omega arith in
    rw less (omega (arith, ints, product))
one_less n (negsuc m) = omega (arith, ints)

pub doubled : (n : ℕ) (q : ℤ) → q *ℤ pos (n + n) ≡ (q *ℤ pos n) +ℤ (q *ℤ pos n)
doubled n (pos m) = omega (arith, ints)
doubled n (negsuc m) = omega (arith, ints)

-- ---- quotients of larger numbers

pub rises : (n : ℕ) (a b : ℤ) → 0 < n → a ≤ℤ b → int_div_euclid a (pos n) ≤ℤ int_div_euclid b (pos n)
rises n a b some h = let l = least n a some in fits n (int_div_euclid a (pos n)) b some (omega (arith, ints, h, l))

pub by_one : (n : ℕ) (a b : ℤ) → 0 < n → b ≤ℤ (a +ℤ pos n) → int_div_euclid b (pos n) ≤ℤ (int_div_euclid a (pos n) +ℤ pos 1)
by_one n a b some h =
    let l = least n b some in
    let p = one_less n (int_div_euclid b (pos n)) in
    let f = fits n (int_div_euclid b (pos n) -ℤ pos 1) a some (omega (arith, ints, h, l, p)) in
    omega (arith, ints, f)

pub times_rises : (n : ℕ) (a b : ℤ) → a ≤ℤ b → (a *ℤ pos n) ≤ℤ (b *ℤ pos n)
times_rises n (pos a) (pos b) h = let p = mul-le a n b n (omega (arith, ints, h)) (omega arith) in omega (arith, ints, p)
times_rises n (negsuc a) (pos b) h = omega (arith, ints)
times_rises n (negsuc a) (negsuc b) h =
    let p = mul-le (suc b) n (suc a) n (omega (arith, ints, h)) (omega arith) in omega (arith, ints, p)
times_rises n (pos a) (negsuc b) h = absurd (omega (arith, ints, h))

pub one_more : (n : ℕ) (k : ℤ) → (k +ℤ pos 1) *ℤ pos n ≡ (k *ℤ pos n) +ℤ pos n
one_more n (pos m) = omega (arith, ints)
one_more n (negsuc zero) = omega (arith, ints)
one_more n (negsuc (suc m)) =
    let more : negsuc (suc m) +ℤ pos 1 ≡ negsuc m = omega (arith, ints) in
    let product : suc (suc m) * n ≡ suc m * n + n = omega arith in
    rw more (omega (arith, ints, product))

-- a number less or more by k
pub minus_times : (n k : ℕ) (p : ℤ) → (p -ℤ pos k) *ℤ pos n ≡ (p *ℤ pos n) -ℤ pos (k * n)
minus_times n zero p = let e : p -ℤ pos 0 ≡ p = omega (arith, ints) in rw e (omega (arith, ints))
minus_times n (suc k) p =
    let e : p -ℤ pos (suc k) ≡ (p -ℤ pos k) -ℤ pos 1 = omega (arith, ints) in
    let product : suc k * n ≡ k * n + n = omega arith in
    let o = one_less n (p -ℤ pos k) in
    let r = minus_times n k p in
    rw e (omega (arith, ints, o, r, product))

pub plus_times : (n k : ℕ) (p : ℤ) → (p +ℤ pos k) *ℤ pos n ≡ (p *ℤ pos n) +ℤ pos (k * n)
plus_times n zero p = let e : p +ℤ pos 0 ≡ p = omega (arith, ints) in rw e (omega (arith, ints))
plus_times n (suc k) p =
    let e : p +ℤ pos (suc k) ≡ (p +ℤ pos k) +ℤ pos 1 = omega (arith, ints) in
    let product : suc k * n ≡ k * n + n = omega arith in
    let o = one_more n (p +ℤ pos k) in
    let r = plus_times n k p in
    rw e (omega (arith, ints, o, r, product))

-- q is at most k if twice n times q isn't more than n above twice n times k
pub at_most : (n : ℕ) (k q : ℤ) → 0 < n → ((q *ℤ pos n) +ℤ (q *ℤ pos n)) ≤ℤ (((k *ℤ pos n) +ℤ (k *ℤ pos n)) +ℤ pos n) → q ≤ℤ k
at_most n k q some h = by_lt_z k q
    (λ above. let p = times_rises n (k +ℤ pos 1) q (omega (arith, ints, above)) in let e = one_more n k in absurd (omega (arith, ints, h, p, e, some)))
    (λ below. below)

-- ---- the nearest whole number

pub record IsNear (n : ℕ) (a : ℤ) : Type 0 where
  pub low : ((a +ℤ a) -ℤ pos n) ≤ℤ ((nearest a (pos n) *ℤ pos n) +ℤ (nearest a (pos n) *ℤ pos n))
  pub high : ((nearest a (pos n) *ℤ pos n) +ℤ (nearest a (pos n) *ℤ pos n)) ≤ℤ ((a +ℤ a) +ℤ pos n)

pub near : (n : ℕ) (a : ℤ) → 0 < n → IsNear n a
near n a some =
    let l = least (n + n) ((a +ℤ a) +ℤ pos n) (omega (arith, some)) in
    let g = greatest (n + n) ((a +ℤ a) +ℤ pos n) (omega (arith, some)) in
    let d = doubled n (nearest a (pos n)) in
    record { low = omega (arith, ints, g, d); high = omega (arith, ints, l, d) }

pub nearest_rises : (n : ℕ) (a b : ℤ) → 0 < n → a ≤ℤ b → nearest a (pos n) ≤ℤ nearest b (pos n)
nearest_rises n a b some h =
    rises (n + n) ((a +ℤ a) +ℤ pos n) ((b +ℤ b) +ℤ pos n) (omega (arith, some)) (omega (arith, ints, h))

nearest_by_one : (n : ℕ) (a b : ℤ) → 0 < n → b ≤ℤ (a +ℤ pos n) → nearest b (pos n) ≤ℤ (nearest a (pos n) +ℤ pos 1)
nearest_by_one n a b some h =
    by_one (n + n) ((a +ℤ a) +ℤ pos n) ((b +ℤ b) +ℤ pos n) (omega (arith, some)) (omega (arith, ints, h))

-- from at least k times n up, the nearest number is at least k, and so at most
pub nearest_from : (n : ℕ) (k a : ℤ) → 0 < n → (k *ℤ pos n) ≤ℤ a → k ≤ℤ nearest a (pos n)
nearest_from n k a some h =
    let d = doubled n k in
    fits (n + n) k ((a +ℤ a) +ℤ pos n) (omega (arith, some)) (omega (arith, ints, d, h))

pub nearest_to : (n : ℕ) (k a : ℤ) → 0 < n → a ≤ℤ (k *ℤ pos n) → nearest a (pos n) ≤ℤ k
nearest_to n k a some h =
    let e = (near n a some).high in
    at_most n k (nearest a (pos n)) some (omega (arith, ints, e, h))

pub nearest_whole : (n : ℕ) (k : ℤ) → 0 < n → nearest (k *ℤ pos n) (pos n) ≡ k
nearest_whole n k some =
    let up = nearest_from n k (k *ℤ pos n) some (omega (arith, ints)) in
    let down = nearest_to n k (k *ℤ pos n) some (omega (arith, ints)) in
    omega (arith, ints, up, down)

-- ---- the laws

pub nearest_law : CountIsNearest
nearest_law m place some = let n = near m.nanometres (parts m place) some in record { low = n.low; high = n.high }

pub rises_law : CountRises
rises_law m a b some h = nearest_rises m.nanometres (parts m a) (parts m b) some (times_rises m.steps a b h)

pub by_one_law : CountMovesByOne
by_one_law m a b some h = nearest_by_one m.nanometres (parts m a) (parts m b) some h

pub whole_law : CountOfWhole
whole_law m k place some is = ap (λ a. nearest a (pos m.nanometres)) is ∙ nearest_whole m.nanometres k some

-- rounded down and up
pub up_fits : (n : ℕ) (z : ℤ) → 0 < n → z ≤ℤ (int_div_euclid ((z +ℤ pos n) -ℤ pos 1) (pos n) *ℤ pos n)
up_fits n z some = let g = greatest n ((z +ℤ pos n) -ℤ pos 1) some in omega (arith, ints, g)

pub up_at_most : (n : ℕ) (k z : ℤ) → 0 < n → z ≤ℤ (k *ℤ pos n) → int_div_euclid ((z +ℤ pos n) -ℤ pos 1) (pos n) ≤ℤ k
up_at_most n k z some h =
    let q = int_div_euclid ((z +ℤ pos n) -ℤ pos 1) (pos n) in
    let l = least n ((z +ℤ pos n) -ℤ pos 1) some in
    by_lt_z k q
    (λ above. let p = times_rises n (k +ℤ pos 1) q (omega (arith, ints, above)) in let e = one_more n k in absurd (omega (arith, ints, h, l, p, e, some)))
    (λ below. below)

pub down_at_most : (n : ℕ) (k z : ℤ) → 0 < n → z ≤ℤ (k *ℤ pos n) → int_div_euclid z (pos n) ≤ℤ k
down_at_most n k z some h =
    let u = up_at_most n k z some h in
    let r = rises n z ((z +ℤ pos n) -ℤ pos 1) some (omega (arith, ints, some)) in
    omega (arith, ints, u, r)

pub between_law : PlaceIsBetween
between_law m place some =
    let c = commanded_parts m place in
    record {
      above = least m.steps c some;
      below = up_fits m.steps c some;
      near = by_one m.steps c ((c +ℤ pos m.steps) -ℤ pos 1) some (omega (arith, ints));
    }
