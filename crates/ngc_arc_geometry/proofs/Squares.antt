-- Squares, and their consequences for the numbers.
use Rattle.std.proofs.Common.{◌≡◌, ℕ, ◌+◌, ◌*◌, ◌≤◌, ℤ, pos, negsuc, ◌+ℤ◌, ◌*ℤ◌, unsigned_abs, inl, inr, arith, refl}
use Rattle.std.proofs.lemmas.Bool.{cases_lt}
use Rattle.std.proofs.lemmas.Nat.{mul-le}

-- the sum of the squares is that of the sizes' squares
pub square_sum : (x y : ℤ) → unsigned_abs ((x *ℤ x) +ℤ (y *ℤ y)) ≡ unsigned_abs x * unsigned_abs x + unsigned_abs y * unsigned_abs y
square_sum (pos a) (pos b) = refl
square_sum (pos a) (negsuc b) = refl
square_sum (negsuc a) (pos b) = refl
square_sum (negsuc a) (negsuc b) = refl

pub from_squares : (a b : ℕ) → a * a ≤ b * b → a ≤ b
from_squares a b h =
    elim (cases_lt b a) [
      | inl more ↦ (let p : (b + 1) * (b + 1) ≤ a * a = mul-le (b + 1) (b + 1) a a (omega arith) (omega arith) in absurd (omega arith))
      | inr less ↦ less
    ]

-- a vector of length at most r is at most r along each axis
pub first_within : (x y : ℤ) (r : ℕ) → unsigned_abs ((x *ℤ x) +ℤ (y *ℤ y)) ≤ r * r → unsigned_abs x ≤ r
first_within x y r h = let e = square_sum x y in from_squares (unsigned_abs x) r (omega arith)

pub second_within : (x y : ℤ) (r : ℕ) → unsigned_abs ((x *ℤ x) +ℤ (y *ℤ y)) ≤ r * r → unsigned_abs y ≤ r
second_within x y r h = let e = square_sum x y in from_squares (unsigned_abs y) r (omega arith)
