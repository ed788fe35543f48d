-- The straight parts of an arc's path, and the move that leads onto the wheel.
use Rattle.std.proofs.Common.{◌≡◌, ℕ, ◌+◌, ◌*◌, ◌<◌, ◌≤◌, ◌⊎◌, inl, inr, ℤ, pos, ◌+ℤ◌, ◌≤ℤ◌, arith}
use Rattle.std.proofs.lemmas.Int.{ints}
use Rattle.std.proofs.Math.Nat.{mul-le-mul_left, le_of_mul-le-mul_left}
use Rattle.ngc_fixed_length.specs.Grid.{distance}

-- On the line from p to the grid point nearest to e, no grid point q is farther from e than p is.
pub no_farther_up : (g : ℕ) (p q near e : ℤ) → 2 * distance near e ≤ g → (q ≡ p) ⊎ ((p +ℤ pos g) ≤ℤ q) → q ≤ℤ near → distance q e ≤ distance p e
no_farther_up g p q near e close (inl same) last = omega (arith, ints, same)
no_farther_up g p q near e close (inr apart) last = omega (arith, ints, close, apart, last)

pub no_farther_down : (g : ℕ) (p q near e : ℤ) → 2 * distance near e ≤ g → (q ≡ p) ⊎ ((q +ℤ pos g) ≤ℤ p) → near ≤ℤ q → distance q e ≤ distance p e
no_farther_down g p q near e close (inl same) last = omega (arith, ints, same)
no_farther_down g p q near e close (inr apart) last = omega (arith, ints, close, apart, last)

-- ---- the joint (x, y) is the grid point nearest to the start b = (bx, by), moved from the radius s to the radius r

pub record IsJoint (g s r x bx : ℕ) : Type 0 where
  pub up : 2 * (s * x) ≤ 2 * (r * bx) + s * g
  pub down : 2 * (r * bx) ≤ 2 * (s * x) + s * g

-- if b is not steep, a step outward leads to its direction or past it
pub outward_enters : (g s r x y bx by : ℕ) → 0 < s → IsJoint g s r x bx → IsJoint g s r y by → by ≤ bx → by * x ≤ bx * (y + g)
outward_enters g s r x y bx by some jx jy flat =
    let a = mul-le-mul_left by jx.up in
    let b = mul-le-mul_left bx jy.down in
    let c = mul-le-mul_left (s * g) flat in
    let d : (2 * s) * (by * x) ≤ (2 * s) * (bx * (y + g)) = omega arith in
    le_of_mul-le-mul_left d (omega arith)

-- if b is steep, a step inward does
pub inward_enters : (g s r t y bx by : ℕ) → 0 < s → IsJoint g s r (t + g) bx → IsJoint g s r y by → bx ≤ by → by * t ≤ bx * y
inward_enters g s r t y bx by some jx jy steep =
    let a = mul-le-mul_left by jx.up in
    let b = mul-le-mul_left bx jy.down in
    let c = mul-le-mul_left (s * g) steep in
    let d : (2 * s) * (by * t) ≤ (2 * s) * (bx * y) = omega arith in
    le_of_mul-le-mul_left d (omega arith)

-- a diagonal step does if one of them does
pub diagonal_enters_out : (g t y bx by : ℕ) → by * (t + g) ≤ bx * (y + g) → by * t ≤ bx * (y + g)
diagonal_enters_out g t y bx by h = omega arith

pub diagonal_enters_in : (g t y bx by : ℕ) → by * t ≤ bx * y → by * t ≤ bx * (y + g)
diagonal_enters_in g t y bx by h = omega arith
