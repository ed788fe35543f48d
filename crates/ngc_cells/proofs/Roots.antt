-- Numbers whose squares are at most a bound.
use Rattle.std.proofs.Common.{◌≡◌, ℕ, ◌+◌, ◌*◌, ◌<◌, ◌≤◌, ℤ, pos, negsuc, ◌+ℤ◌, ◌-ℤ◌, ◌*ℤ◌, neg_ℤ, ◌≤ℤ◌, ◌↔◌, unsigned_abs, inl, inr, refl, subst, arith, [], ◌∷◌}
use Rattle.std.proofs.lemmas.Bool.{cases_lt}
use Rattle.std.proofs.lemmas.Nat.{mul-le}
use Rattle.std.proofs.lemmas.Int.{ints}
use Rattle.ngc_fixed_length.specs.Roots.{IsRootFloor}
use Rattle.ngc_cells.proofs.Ring.{V, S, P, ring}
use Rattle.ngc_cells.proofs.Vectors.{L, natural}
use Rattle.ngc_cells.specs.declared.span.Span.{Span}
use Rattle.ngc_cells.specs.Spans.{IsIn}
use Rattle.ngc_cells.specs.Stretches.{square, ahead, middle}

below : (n m h : ℕ) → h * h ≤ m → m < (h + 1) * (h + 1) → n * n ≤ m → n ≤ h
below n m h least greatest small =
    elim (cases_lt h n) [
      | inl more ↦ (let p = mul-le (h + 1) (h + 1) n n (omega arith) (omega arith) in absurd (omega arith))
      | inr less ↦ less
    ]

pub squares_below : (n m h : ℕ) → h * h ≤ m → n ≤ h → n * n ≤ m
squares_below n m h least small = let p = mul-le n n h h small small in omega arith

pub root_is : (z : ℤ) (m h : ℕ) → IsRootFloor m h → (square z ≤ℤ pos m) ↔ ((neg_ℤ (pos h) ≤ℤ z) × (z ≤ℤ pos h))
root_is (pos n) m h r = (
  (λ s. let p = below n m h r.square r.greatest (omega (arith, ints, s)) in (omega (arith, ints), omega (arith, ints))),
  (λ s. let p = squares_below n m h r.square (omega (arith, ints, s.1)) in omega (arith, ints)),
)
root_is (negsuc n) m h r = (
  (λ s. let p = below (n + 1) m h r.square r.greatest (omega (arith, ints, s)) in (omega (arith, ints), omega (arith, ints))),
  (λ s. let p = squares_below (n + 1) m h r.square (omega (arith, ints, s.0)) in omega (arith, ints)),
)

pub root_row : (x : ℤ) (n : ℕ) (middle room : ℤ) (h : ℕ) (s : Span) → pos 0 ≤ℤ room → IsRootFloor (unsigned_abs room) h →
    (IsIn s x ↔ (((middle -ℤ pos h) ≤ℤ (x *ℤ pos n)) × ((x *ℤ pos n) ≤ℤ (middle +ℤ pos h)))) →
    IsIn s x ↔ (square ((x *ℤ pos n) -ℤ middle) ≤ℤ room)
root_row x n middle room h s least root f =
    let e = natural room least in
    let g = root_is ((x *ℤ pos n) -ℤ middle) (unsigned_abs room) h root in (
      (λ i. let p = f.0 i in rw e (g.1 (omega (arith, ints, p.0), omega (arith, ints, p.1)))),
      (λ i. let p = g.0 (rw e at i) in f.1 (omega (arith, ints, p.0), omega (arith, ints, p.1))),
    )

ahead_is : (n k a b x : ℤ) → (x *ℤ n) -ℤ ((n *ℤ a) +ℤ (k *ℤ (b -ℤ a))) ≡ (n *ℤ (x -ℤ a)) -ℤ (k *ℤ (b -ℤ a))
ahead_is n k a b x = ring (n ∷ k ∷ a ∷ b ∷ x ∷ [])
    (L (P (V 4) (V 0)) (S (P (V 0) (V 2)) (P (V 1) (L (V 3) (V 2)))))
    (L (P (V 0) (L (V 4) (V 2))) (P (V 1) (L (V 3) (V 2)))) refl

pub around_row : (x : ℤ) (n k r : ℕ) (a b rise : ℤ) (s : Span) →
    (IsIn s x ↔ (square ((x *ℤ pos n) -ℤ middle n k a b) ≤ℤ ((pos (n * r) *ℤ pos (n * r)) -ℤ (rise *ℤ rise)))) →
    IsIn s x ↔ ((square (ahead n k a b x) +ℤ square rise) ≤ℤ pos ((n * r) * (n * r)))
around_row x n k r a b rise s f =
    let e = ahead_is (pos n) (pos k) a b x in
    let g = subst (λ (z : ℤ). IsIn s x ↔ (square z ≤ℤ ((pos (n * r) *ℤ pos (n * r)) -ℤ (rise *ℤ rise)))) e f in (
      (λ i. let p = g.0 i in omega (arith, ints, p)),
      (λ i. g.1 (omega (arith, ints, i))),
    )
