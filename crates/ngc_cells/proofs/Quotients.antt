-- Quotients rounded down and up, and spans.
use Rattle.std.proofs.Common.{ℕ, zero, suc, ◌+◌, ◌*◌, ◌/◌, ◌<◌, ◌≤◌, ℤ, pos, negsuc, ◌*ℤ◌, neg_ℤ, ◌≤ℤ◌, ◌<ℤ◌, ◌↔◌, unsigned_abs, inl, inr, arith}
use Rattle.std.proofs.Math.Nat.{mul-le-mul_left}
use Rattle.std.proofs.lemmas.Nat.{le-div, div_below}
use Rattle.std.proofs.lemmas.Int.{ints, clamps, by_lt_z}
use Rattle.std.specs.Int.{int_div_euclid, int_max, int_min}
use Rattle.ngc_cells.proofs.Ring.{neg_times, times_neg}
use Rattle.ngc_cells.specs.declared.span.Span.{Span}
use Rattle.ngc_cells.specs.Spans.{IsIn, IsInEither, IsBetween}

floor_up : (y : ℕ) (q x : ℤ) → 0 < y → (q *ℤ pos y) ≤ℤ x → q ≤ℤ int_div_euclid x (pos y)
floor_up y (pos m) (pos a) p h = let i = le-div m a y p (omega (arith, ints, h)) in omega (arith, ints, i)
floor_up y (pos m) (negsuc a) p h = absurd (omega (arith, ints, h))
floor_up y (negsuc m) (pos a) p h = omega (arith, ints)
floor_up y (negsuc m) (negsuc a) p h = let i = div_below a y (suc m) p (omega (arith, ints, h)) in omega (arith, ints, i)

share : (x y : ℕ) → 0 < y → (x / y) * y ≤ x
share x y h = omega arith

share_past : (x y : ℕ) → 0 < y → x < (x / y + 1) * y
share_past x y h = omega arith

floor_down : (y : ℕ) (q x : ℤ) → 0 < y → q ≤ℤ int_div_euclid x (pos y) → (q *ℤ pos y) ≤ℤ x
floor_down y (pos m) (pos a) p h = let i : m ≤ a / y = omega (arith, ints, h) in let j = mul-le-mul_left y i in let k = share a y p in omega (arith, ints, j, k)
floor_down y (pos m) (negsuc a) p h = absurd (omega (arith, ints, h))
floor_down y (negsuc m) (pos a) p h = omega (arith, ints)
floor_down y (negsuc m) (negsuc a) p h = let i : a / y ≤ m = omega (arith, ints, h) in let j = mul-le-mul_left y i in let k = share_past a y p in omega (arith, ints, j, k)

pub floor_is : (y q x : ℤ) → pos 0 <ℤ y → (q ≤ℤ int_div_euclid x y) ↔ ((q *ℤ y) ≤ℤ x)
floor_is (pos y) q x h = (floor_down y q x (omega (arith, ints, h)), floor_up y q x (omega (arith, ints, h)))
floor_is (negsuc y) q x h = absurd (omega (arith, ints, h))

smaller : (a y : ℕ) → 0 < y → a / y ≤ a
smaller a (suc y) h = let i = share a (suc y) h in omega (arith, i)
smaller a zero h = absurd (omega arith)

pub quotient_size : (y x : ℤ) → pos 0 <ℤ y → unsigned_abs (int_div_euclid x y) ≤ unsigned_abs x
quotient_size (pos y) (pos a) h = smaller a y (omega (arith, ints, h))
quotient_size (pos y) (negsuc a) h = let i = smaller a y (omega (arith, ints, h)) in omega (arith, ints, i)
quotient_size (negsuc y) x h = absurd (omega (arith, ints, h))

pub ceiling_is : (y q x : ℤ) → pos 0 <ℤ y → (neg_ℤ (int_div_euclid (neg_ℤ x) y) ≤ℤ q) ↔ (x ≤ℤ (q *ℤ y))
ceiling_is y q x h =
    let f = floor_is y (neg_ℤ q) (neg_ℤ x) h in
    let e = neg_times q y in (
      (λ g. let i = f.0 (omega (arith, ints, g)) in omega (arith, ints, i, e)),
      (λ g. let i = f.1 (omega (arith, ints, g, e)) in omega (arith, ints, i)),
    )

pub meet_is : (a b : Span) (x : ℤ) → IsIn (record { low = int_max a.low b.low; high = int_min a.high b.high }) x ↔ (IsIn a x × IsIn b x)
meet_is a b x = (
  (λ h. (record { low = omega (arith, ints, clamps, h.low); high = omega (arith, ints, clamps, h.high) }, record { low = omega (arith, ints, clamps, h.low); high = omega (arith, ints, clamps, h.high) })),
  (λ h. record { low = omega (arith, ints, clamps, h.0.low, h.1.low); high = omega (arith, ints, clamps, h.0.high, h.1.high) }),
)

lowest : (a b : Span) → a.low ≤ℤ a.high → b.low ≤ℤ b.high → (l : ℤ) × IsInEither a b l × (l ≤ℤ int_min a.low b.low)
lowest a b h g = by_lt_z b.low a.low
    (λ less. (b.low, inr (record { low = omega (arith, ints); high = g }), omega (arith, ints, clamps, less)))
    (λ more. (a.low, inl (record { low = omega (arith, ints); high = h }), omega (arith, ints, clamps, more)))

highest : (a b : Span) → a.low ≤ℤ a.high → b.low ≤ℤ b.high → (l : ℤ) × IsInEither a b l × (int_max a.high b.high ≤ℤ l)
highest a b h g = by_lt_z b.high a.high
    (λ less. (a.high, inl (record { low = h; high = omega (arith, ints) }), omega (arith, ints, clamps, less)))
    (λ more. (b.high, inr (record { low = g; high = omega (arith, ints) }), omega (arith, ints, clamps, more)))

pub hull_between : (a b : Span) (x : ℤ) → a.low ≤ℤ a.high → b.low ≤ℤ b.high → IsIn (record { low = int_min a.low b.low; high = int_max a.high b.high }) x → IsBetween a b x
hull_between a b x h g i =
    let l = lowest a b h g in
    let m = highest a b h g in
    record {
      least = l.0;
      greatest = m.0;
      least_in = l.1;
      greatest_in = m.1;
      low = omega (arith, ints, i.low, l.2);
      high = omega (arith, ints, i.high, m.2);
    }

pub quotients_up : (low high by x l h : ℤ) → ((l ≤ℤ x) ↔ (low ≤ℤ (x *ℤ by))) → ((x ≤ℤ h) ↔ ((x *ℤ by) ≤ℤ high)) →
    IsIn (record { low = l; high = h }) x ↔ ((low ≤ℤ (x *ℤ by)) × ((x *ℤ by) ≤ℤ high))
quotients_up low high by x l h f g = (
  (λ i. (f.0 i.low, g.0 i.high)),
  (λ i. record { low = f.1 i.0; high = g.1 i.1 }),
)

pub quotients_down : (low high by x l h : ℤ) → ((l ≤ℤ x) ↔ (neg_ℤ high ≤ℤ (x *ℤ neg_ℤ by))) → ((x ≤ℤ h) ↔ ((x *ℤ neg_ℤ by) ≤ℤ neg_ℤ low)) →
    IsIn (record { low = l; high = h }) x ↔ ((low ≤ℤ (x *ℤ by)) × ((x *ℤ by) ≤ℤ high))
quotients_down low high by x l h f g =
    let e = times_neg x by in (
      (λ i. let p = f.0 i.low in let q = g.0 i.high in (omega (arith, ints, q, e), omega (arith, ints, p, e))),
      (λ i. record { low = f.1 (omega (arith, ints, i.1, e)); high = g.1 (omega (arith, ints, i.0, e)) }),
    )
