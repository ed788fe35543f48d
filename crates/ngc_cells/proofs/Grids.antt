-- The cells of a row whose centres are in a span.
use Rattle.std.proofs.Common.{◌≡◌, ℕ, zero, suc, ◌+◌, ◌*◌, ◌/◌, ◌%◌, ◌<◌, ◌≤◌, ℤ, pos, ◌+ℤ◌, ◌-ℤ◌, ◌*ℤ◌, ◌≤ℤ◌, ◌↔◌, unsigned_abs, arith}
use Rattle.std.proofs.lemmas.Nat.{mul-le, mod_below, div_below}
use Rattle.std.proofs.lemmas.Int.{ints}
use Rattle.ngc_cells.specs.declared.span.Span.{Span}
use Rattle.ngc_cells.specs.Spans.{IsIn}
use Rattle.ngc_cells.specs.Grids.{middle_of}

middle_is : (half i : ℕ) → i * (2 * half) + half ≡ (2 * i + 1) * half
middle_is half i = omega arith

pub indices_are : (corner l h : ℤ) (half i first end : ℕ) (span q : Span) →
    ((first ≤ i) ↔ (q.low ≤ℤ pos i)) → ((i < end) ↔ (pos i ≤ℤ q.high)) →
    (IsIn q (pos i) ↔ (((l -ℤ (corner +ℤ pos half)) ≤ℤ (pos i *ℤ pos (2 * half))) × ((pos i *ℤ pos (2 * half)) ≤ℤ (h -ℤ (corner +ℤ pos half))))) →
    ((span.low ≤ℤ middle_of corner half i) ↔ (l ≤ℤ middle_of corner half i)) → ((middle_of corner half i ≤ℤ span.high) ↔ (middle_of corner half i ≤ℤ h)) →
    ((first ≤ i) × (i < end)) ↔ IsIn span (middle_of corner half i)
indices_are corner l h half i first end span q a b c d e =
    let m = middle_is half i in (
      (λ p. let x = c.0 (record { low = a.0 p.0; high = b.0 p.1 }) in record { low = d.1 (omega (arith, ints, x.0, m)); high = e.1 (omega (arith, ints, x.1, m)) }),
      (λ p. let x = c.1 (let y = d.0 p.low in let z = e.0 p.high in (omega (arith, ints, y, m), omega (arith, ints, z, m))) in (a.1 x.low, b.1 x.high)),
    )

pub middle_small : (corner : ℤ) (half i count : ℕ) → unsigned_abs corner ≤ 2000000000 → 2 * count * half ≤ 4000000000 → i < count → unsigned_abs (middle_of corner half i) < 1099511627776
middle_small corner half i count h small less =
    let p = mul-le (2 * i + 1) half (2 * count) half (omega arith) (omega arith) in
    omega (arith, ints, h, small, p)

index_fits : (corner : ℤ) (half i count : ℕ) → unsigned_abs corner ≤ 2000000000 → (corner +ℤ pos (2 * count * half)) ≤ℤ pos 2000000000 → i < count → (2 * i + 1) * half ≤ 4000000000
index_fits corner half i count h small less =
    let p = mul-le (2 * i + 1) half (2 * count) half (omega arith) (omega arith) in
    omega (arith, ints, h, small, p)

pub column_fits : (corner : ℤ) (half columns rows k : ℕ) → unsigned_abs corner ≤ 2000000000 → (corner +ℤ pos (2 * columns * half)) ≤ℤ pos 2000000000 → k < columns * rows → (2 * (k % columns) + 1) * half ≤ 4000000000
column_fits corner half zero rows k h small less = absurd (omega arith)
column_fits corner half (suc w) rows k h small less = index_fits corner half (k % suc w) (suc w) h small (mod_below k (suc w) (omega arith))

pub row_fits : (corner : ℤ) (half columns rows k : ℕ) → unsigned_abs corner ≤ 2000000000 → (corner +ℤ pos (2 * rows * half)) ≤ℤ pos 2000000000 → k < columns * rows → (2 * (k / columns) + 1) * half ≤ 4000000000
row_fits corner half zero rows k h small less = absurd (omega arith)
row_fits corner half (suc w) rows k h small less =
    let e : k < rows * suc w = omega arith in
    index_fits corner half (k / suc w) rows h small (div_below k (suc w) rows (omega arith) e)

pub middle_near : (corner : ℤ) (half i count : ℕ) → unsigned_abs corner ≤ 2000000000 → (corner +ℤ pos (2 * count * half)) ≤ℤ pos 2000000000 → i < count → unsigned_abs (middle_of corner half i) ≤ 2000000000
middle_near corner half i count h small less =
    let p = mul-le (2 * i + 1) half (2 * count) half (omega arith) (omega arith) in
    omega (arith, ints, h, small, p)
