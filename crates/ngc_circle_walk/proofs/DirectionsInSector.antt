-- A direction from the start's to the end's, in quadrants counted from the start on, is in the
-- sector.
use Rattle.std.proofs.Common.{ℕ, zero, suc, ◌+◌, ◌*◌, ◌<◌, ◌≤◌, ◌⊎◌, inl, inr, arith}
use Rattle.std.proofs.lemmas.Bool.{cases_lt}
use Rattle.std.proofs.lemmas.Nat.{mul-le}
use Rattle.std.proofs.Math.Nat.{mul-le-mul_left, le_of_mul-le-mul_left}
use Rattle.ngc_circle_walk.specs.Directions.{IsAhead, IsNoLater}

-- an end n quadrants from its start leaves no more than a full circle: a fourth quadrant is the
-- first again, up to the start
abbrev pub IsWithinTurn : ℕ → ℕ → ℕ → ℕ → ℕ → Type 0
IsWithinTurn zero x y z w = Unit {0}
IsWithinTurn (suc zero) x y z w = Unit {0}
IsWithinTurn (suc (suc zero)) x y z w = Unit {0}
IsWithinTurn (suc (suc (suc zero))) x y z w = Unit {0}
IsWithinTurn (suc (suc (suc (suc zero)))) x y z w = x * w < y * z
IsWithinTurn (suc (suc (suc (suc (suc n))))) x y z w = ⊥

too_far : (k x y z w : ℕ) → 4 < k → IsWithinTurn k x y z w → ⊥
too_far zero x y z w h turn = absurd (omega arith)
too_far (suc zero) x y z w h turn = absurd (omega arith)
too_far (suc (suc zero)) x y z w h turn = absurd (omega arith)
too_far (suc (suc (suc zero))) x y z w h turn = absurd (omega arith)
too_far (suc (suc (suc (suc zero)))) x y z w h turn = absurd (omega arith)
too_far (suc (suc (suc (suc (suc n))))) x y z w h turn = turn

-- two slopes compare through a third
through : (x y z w s t : ℕ) → 0 < z → y * z ≤ x * w → w * s ≤ z * t → y * s ≤ x * t
through x y z w s t some a b =
    let p = mul-le-mul_left s a in
    let q = mul-le-mul_left x b in
    let r : z * (y * s) ≤ z * (x * t) = omega arith in
    le_of_mul-le-mul_left r some

-- In a sector of at most half a turn both conditions hold: m quadrants from the start b to p, and n
-- from p to the end e.
pub both_ahead : (m n bx by x y ex ey : ℕ) → 0 < bx → 0 < x → 0 < ex → IsNoLater m bx by x y → IsNoLater n x y ex ey →
    IsWithinTurn (m + n) bx by ex ey → IsAhead (m + n) bx by ex ey → IsAhead m bx by x y × IsAhead n x y ex ey
both_ahead zero zero bx by x y ex ey b p e bp pe turn small = (bp, pe)
both_ahead zero (suc zero) bx by x y ex ey b p e bp pe turn small = (bp, tt)
both_ahead zero (suc (suc zero)) bx by x y ex ey b p e bp pe turn small =
    (bp, let r = through ex ey bx by x y b (omega (arith, small)) (omega (arith, bp)) in omega (arith, r))
both_ahead zero (suc (suc (suc zero))) bx by x y ex ey b p e bp pe turn small = absurd (omega (arith, small, mul-le 1 1 bx ex b e))
both_ahead zero (suc (suc (suc (suc zero)))) bx by x y ex ey b p e bp pe turn small = absurd (omega (arith, small, turn))
both_ahead zero (suc (suc (suc (suc (suc n))))) bx by x y ex ey b p e bp pe turn small = absurd (too_far _ bx by ex ey (omega arith) turn)
both_ahead (suc zero) zero bx by x y ex ey b p e bp pe turn small = (tt, pe)
both_ahead (suc zero) (suc zero) bx by x y ex ey b p e bp pe turn small = (tt, tt)
both_ahead (suc zero) (suc (suc zero)) bx by x y ex ey b p e bp pe turn small = absurd (omega (arith, small, mul-le 1 1 bx ex b e))
both_ahead (suc zero) (suc (suc (suc zero))) bx by x y ex ey b p e bp pe turn small = absurd (omega (arith, small, turn))
both_ahead (suc zero) (suc (suc (suc (suc n)))) bx by x y ex ey b p e bp pe turn small = absurd (too_far _ bx by ex ey (omega arith) turn)
both_ahead (suc (suc zero)) zero bx by x y ex ey b p e bp pe turn small =
    (let r = through x y ex ey bx by e (omega (arith, pe)) (omega (arith, small)) in omega (arith, r), pe)
both_ahead (suc (suc zero)) (suc zero) bx by x y ex ey b p e bp pe turn small = absurd (omega (arith, small, mul-le 1 1 bx ex b e))
both_ahead (suc (suc zero)) (suc (suc zero)) bx by x y ex ey b p e bp pe turn small = absurd (omega (arith, small, turn))
both_ahead (suc (suc zero)) (suc (suc (suc n))) bx by x y ex ey b p e bp pe turn small = absurd (too_far _ bx by ex ey (omega arith) turn)
both_ahead (suc (suc (suc zero))) zero bx by x y ex ey b p e bp pe turn small = absurd (omega (arith, small, mul-le 1 1 bx ex b e))
both_ahead (suc (suc (suc zero))) (suc zero) bx by x y ex ey b p e bp pe turn small = absurd (omega (arith, small, turn))
both_ahead (suc (suc (suc zero))) (suc (suc n)) bx by x y ex ey b p e bp pe turn small = absurd (too_far _ bx by ex ey (omega arith) turn)
both_ahead (suc (suc (suc (suc zero)))) zero bx by x y ex ey b p e bp pe turn small = absurd (omega (arith, small, turn))
both_ahead (suc (suc (suc (suc zero)))) (suc n) bx by x y ex ey b p e bp pe turn small = absurd (too_far _ bx by ex ey (omega arith) turn)
both_ahead (suc (suc (suc (suc (suc m))))) n bx by x y ex ey b p e bp pe turn small = absurd (too_far _ bx by ex ey (omega arith) turn)

-- In a larger sector one of them holds.
pub one_ahead : (m n bx by x y ex ey : ℕ) → 0 < bx → 0 < x → 0 < ex → IsNoLater m bx by x y → IsNoLater n x y ex ey →
    IsWithinTurn (m + n) bx by ex ey → IsAhead m bx by x y ⊎ IsAhead n x y ex ey
one_ahead zero n bx by x y ex ey b p e bp pe turn = inl bp
one_ahead (suc zero) n bx by x y ex ey b p e bp pe turn = inl tt
one_ahead (suc (suc zero)) zero bx by x y ex ey b p e bp pe turn = inr pe
one_ahead (suc (suc zero)) (suc zero) bx by x y ex ey b p e bp pe turn = inr tt
one_ahead (suc (suc zero)) (suc (suc zero)) bx by x y ex ey b p e bp pe turn =
    elim (cases_lt (by * x) (bx * y)) [
      | inl more ↦ inr (let r = through ex ey bx by x y b (omega (arith, turn)) (omega arith) in omega (arith, r))
      | inr less ↦ inl less
    ]
one_ahead (suc (suc zero)) (suc (suc (suc n))) bx by x y ex ey b p e bp pe turn = absurd (too_far _ bx by ex ey (omega arith) turn)
one_ahead (suc (suc (suc m))) zero bx by x y ex ey b p e bp pe turn = inr pe
one_ahead (suc (suc (suc m))) (suc zero) bx by x y ex ey b p e bp pe turn = inr tt
one_ahead (suc (suc (suc zero))) (suc (suc n)) bx by x y ex ey b p e bp pe turn = absurd (too_far _ bx by ex ey (omega arith) turn)
one_ahead (suc (suc (suc (suc zero)))) (suc (suc n)) bx by x y ex ey b p e bp pe turn = absurd (too_far _ bx by ex ey (omega arith) turn)
one_ahead (suc (suc (suc (suc (suc m))))) (suc (suc n)) bx by x y ex ey b p e bp pe turn = absurd (too_far _ bx by ex ey (omega arith) turn)
