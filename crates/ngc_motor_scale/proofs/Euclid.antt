-- Euclid's algorithm in any number of steps that is enough.
use Rattle.std.proofs.Common.{◌≡◌, ◌≢◌, ℕ, zero, suc, ◌≤◌, ◌<◌, refl, sym, ◌∙◌, arith}
use Rattle.std.specs.Prelude.{◌%◌, ◌==◌, Bool, true, false, if◌then◌else◌}
use Rattle.std.proofs.lemmas.Bool.{eqb-true, eqb-false}
use Rattle.ngc_motor_scale.specs.Scales.{gcd, gcd_within}

rest_below : (a b : ℕ) → 0 < b → a % b < b
rest_below a b some = omega arith

same_step : (e : Bool) (n m a b : ℕ) → (b == 0) ≡ e → b ≤ suc n → b ≤ suc m →
    ((a b : ℕ) → b ≤ n → b ≤ m → gcd_within n a b ≡ gcd_within m a b) →
    gcd_within (suc n) a b ≡ gcd_within (suc m) a b
unfolding gcd_within
same_step true n m a b e p q next = rw e refl
same_step false n m a b e p q next =
    let some : 0 < b = omega (arith, eqb-false b 0 e) in
    let below : a % b < b = rest_below a b some in
    rw e (next b (a % b) (omega arith) (omega arith))

pub enough : (n m a b : ℕ) → b ≤ n → b ≤ m → gcd_within n a b ≡ gcd_within m a b
unfolding gcd_within
enough zero zero a b p q = refl
enough zero (suc m) a b p q = let none : b ≡ 0 = omega arith in rw none refl
enough (suc n) zero a b p q = let none : b ≡ 0 = omega arith in rw none refl
enough (suc n) (suc m) a b p q = same_step (b == 0) n m a b refl p q (enough n m)

falls_by : (e : Bool) (a b : ℕ) → (suc b == 0) ≡ e → gcd a (suc b) ≡ gcd (suc b) (a % suc b)
unfolding gcd_within
falls_by true a b e = let none : suc b ≡ 0 = eqb-true (suc b) 0 e in absurd (omega arith)
falls_by false a b e =
    let below : a % suc b < suc b = rest_below a (suc b) (omega arith) in
    rw e (enough b (a % suc b) (suc b) (a % suc b) (omega arith) (omega arith))

-- a step of the algorithm
pub falls : (a b : ℕ) → 0 < b → gcd a b ≡ gcd b (a % b)
falls a zero some = absurd (omega arith)
falls a (suc b) some = falls_by (suc b == 0) a b refl

-- the algorithm ends where the second number is 0
pub at_end : (a b x : ℕ) → b ≡ 0 → gcd a b ≡ x → a ≡ x
unfolding gcd_within
at_end a zero x none h = h
at_end a (suc b) x none h = absurd (omega arith)
