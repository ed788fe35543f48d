-- How far along an axis a point ahead can be.
use Rattle.std.proofs.Common.{ℕ, ◌+◌, ◌*◌, ◌≤◌, inl, inr, arith}
use Rattle.std.proofs.lemmas.Bool.{cases_lt}
use Rattle.std.proofs.lemmas.Nat.{mul-le}
use Rattle.ngc_arc_geometry.proofs.Squares.{from_squares}

-- if (a, b) is not ahead of (x, y), and the radii are from p to p + m, x is at most a + m
scaled_reach : (a b x y p m : ℕ) → p * p ≤ a * a + b * b → x * x + y * y ≤ (p + m) * (p + m) → b * x ≤ a * y → (p * x) * (p * x) ≤ (a * (p + m)) * (a * (p + m))
scaled_reach a b x y p m inner outer turn =
    let l : (x * x) * (p * p) ≤ (x * x) * (a * a + b * b) = mul-le (x * x) (p * p) (x * x) (a * a + b * b) (omega arith) inner in
    let r : (a * a) * (x * x + y * y) ≤ (a * a) * ((p + m) * (p + m)) = mul-le (a * a) (x * x + y * y) (a * a) ((p + m) * (p + m)) (omega arith) outer in
    let t : (b * x) * (b * x) ≤ (a * y) * (a * y) = mul-le (b * x) (b * x) (a * y) (a * y) turn turn in
    omega arith

pub reach : (a b x y p m : ℕ) → p * p ≤ a * a + b * b → x * x + y * y ≤ (p + m) * (p + m) → b * x ≤ a * y → x ≤ a + m
reach a b x y p m inner outer turn =
    let far : x ≤ p + m = from_squares x (p + m) (omega (arith, outer)) in
    let scaled : p * x ≤ a * (p + m) = from_squares (p * x) (a * (p + m)) (scaled_reach a b x y p m inner outer turn) in
    elim (cases_lt (a + m) x) [
      | inl more ↦ (
          let f : p * (a + m + 1) ≤ p * x = mul-le p (a + m + 1) p x (omega arith) (omega (arith, more)) in
          let g : (a + 1) * m ≤ p * m = mul-le (a + 1) m p m (omega (arith, more, far)) (omega arith) in
          absurd (omega (arith, f, g, scaled, more, far)))
      | inr less ↦ less
    ]
