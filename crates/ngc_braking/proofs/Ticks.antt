-- The braking distance, tick by tick.
use Rattle.std.proofs.Common.{◌≡◌, ℕ, zero, suc, ◌+◌, ◌-◌, ◌≤◌, refl, ap, sym, arith}
use Rattle.ngc_braking.specs.Braking.{braking, braking_terms}

-- more terms than the rate change nothing
enough_terms : (n m v a : ℕ) → v ≤ n → v ≤ m → 1 ≤ a → braking_terms n v a ≡ braking_terms m v a
unfolding braking_terms
enough_terms zero zero v a p q some = refl
enough_terms zero (suc m) zero a p q some = refl
enough_terms zero (suc m) (suc v) a p q some = absurd (omega arith)
enough_terms (suc n) zero zero a p q some = refl
enough_terms (suc n) zero (suc v) a p q some = absurd (omega arith)
enough_terms (suc n) (suc m) zero a p q some = refl
enough_terms (suc n) (suc m) (suc v) a p q some =
    ap (λ t. suc v + t) (enough_terms n m (suc v - a) a (omega arith) (omega arith) some)

pub braking_none : (a : ℕ) → braking 0 a ≡ 0
unfolding braking_terms
braking_none a = refl

-- one tick, and the rest
pub braking_step : (v a : ℕ) → 1 ≤ a → braking v a ≡ v + braking (v - a) a
unfolding braking_terms
braking_step zero a some =
    let none : zero - a ≡ 0 = omega arith in
    sym (ap (λ z. zero + braking z a) none)
braking_step (suc v) a some =
    ap (λ t. suc v + t) (enough_terms v (suc v - a) (suc v - a) a (omega arith) (omega arith) some)
