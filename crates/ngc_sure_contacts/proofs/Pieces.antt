-- The piece of a line that a point of it is in, and the heights along a line.
use Rattle.std.proofs.Common.{◌≡◌, ℕ, zero, suc, ◌+◌, ◌*◌, ◌-◌, ◌/◌, ◌<◌, ◌≤◌, ℤ, pos, ◌+ℤ◌, ◌-ℤ◌, ◌*ℤ◌, ◌≤ℤ◌, inl, inr, refl, arith, [], ◌∷◌, Bool, true, false, cond, min}
use Rattle.std.specs.Int.{int_min}
use Rattle.std.proofs.lemmas.Bool.{cases_lt}
use Rattle.std.proofs.lemmas.Int.{ints}
use Rattle.std.proofs.lemmas.Nat.{mul-le}
use Rattle.ngc_fixed_length.specs.declared.points.Point3.{Point3}
use Rattle.ngc_cells.proofs.Ring.{V, S, P, ring}
use Rattle.ngc_cells.proofs.Vectors.{L, times_out}
use Rattle.ngc_stock.specs.declared.cylinder.Cylinder.{Cylinder}
use Rattle.ngc_stock.specs.Cuts.{lower_tip}
use Rattle.ngc_stock.specs.Stocks.{tip, pieces, is_slope, height_of}
use Rattle.ngc_stock.proofs.AboveFeeds.{lower_weighted}

some_of : (v : Bool) (h : ℕ) → 0 < cond v (min 1000 (h / 50000 + 1)) 1
some_of true h = omega arith
some_of false h = omega arith

pub some_pieces : (a b : Point3) → 0 < pieces a b
some_pieces a b = some_of (is_slope a b) (height_of a b)

pub step_within : (k m j n : ℕ) → 0 < n → j * n ≤ (k + 1) * m → k < n → j ≤ m
step_within k m j n some h small =
    elim (cases_lt m j) [
      | inl more ↦ (let a : (m + 1) * n ≤ j * n = mul-le (m + 1) n j n (omega arith) (omega arith) in
          let b : (k + 1) * m ≤ n * m = mul-le (k + 1) m n m (omega arith) (omega arith) in
          absurd (omega (arith, a, b, h, some)))
      | inr less ↦ less
    ]

last_part : (n m j : ℕ) → 0 < n → j ≡ m → (i : ℕ) × (i < n) × (i * m ≤ j * n) × (j * n ≤ (i + 1) * m)
last_part (suc n) m j some e = rw e (n, omega arith, omega arith, omega arith)
last_part zero m j some e = absurd (omega arith)

pub part_of : (n m j : ℕ) → 0 < n → 0 < m → j ≤ m → (i : ℕ) × (i < n) × (i * m ≤ j * n) × (j * n ≤ (i + 1) * m)
part_of n m j some more small =
    elim (cases_lt j m) [
      | inl less ↦ (
          let i = (j * n) / m in
          let below : i * m ≤ j * n = omega arith in
          let past : j * n < (i + 1) * m = omega arith in
          let lt : i < n = elim (cases_lt i n) [
            | inl good ↦ good
            | inr bad ↦ (let a : n * m ≤ i * m = mul-le n m i m bad (omega arith) in let b : n * (j + 1) ≤ n * m = mul-le n (j + 1) n m (omega arith) (omega arith) in absurd (omega (arith, a, b, below, some)))
          ] in
          (i, lt, below, omega arith))
      | inr all ↦ (
          let e : j ≡ m = omega arith in
          last_part n m j some e)
    ]

-- the foot is nowhere below its lower end
tip_as : (n k a b t m : ℤ) → ((n *ℤ (a +ℤ t)) +ℤ (k *ℤ (b -ℤ a))) -ℤ (n *ℤ (m +ℤ t)) ≡ (((n -ℤ k) *ℤ a) +ℤ (k *ℤ b)) -ℤ (n *ℤ m)
tip_as n k a b t m = ring (n ∷ k ∷ a ∷ b ∷ t ∷ m ∷ [])
    (L (S (P (V 0) (S (V 2) (V 4))) (P (V 1) (L (V 3) (V 2)))) (P (V 0) (S (V 5) (V 4))))
    (L (S (P (L (V 0) (V 1)) (V 2)) (P (V 1) (V 3))) (P (V 0) (V 5))) refl

pub lower_than : (t : Cylinder) (n k : ℕ) (a b : Point3) (z : ℤ) → 0 < n → k ≤ n → tip t n k a b ≤ℤ (pos n *ℤ z) → lower_tip t a b ≤ℤ z
lower_than t n k a b z some small low =
    let w = lower_weighted n k a.z b.z small in
    let e = tip_as (pos n) (pos k) a.z b.z t.bottom (int_min a.z b.z) in
    times_out (pos n) (lower_tip t a b) z (omega (arith, ints, some)) (omega (arith, ints, w, e, low))
