-- The distance of a wheel's points from the centre.
use Rattle.std.proofs.Common.{◌≡◌, ℕ, ◌+◌, ◌-◌, ◌*◌, ◌<◌, ◌≤◌, inl, inr, arith}
use Rattle.std.proofs.lemmas.Bool.{cases_lt}
use Rattle.std.proofs.Math.Nat.{mul-le-mul_left}
use Rattle.ngc_circle_walk.specs.declared.spoke.Roll.{Roll}
use Rattle.ngc_circle_walk.specs.declared.spoke.Roll.TheVariants.{Outward, Diagonal, Inward, Over}
use Rattle.ngc_circle_walk.specs.declared.spoke.Spoke.{Spoke}
use Rattle.ngc_circle_walk.specs.Wheel.{square, rolled, IsRoll}
use Rattle.ngc_circle_walk.specs.Bounds.{IsBelow, IsAbove}

-- squares keep their order
pub square_le : (a b : ℕ) → a ≤ b → a * a ≤ b * b
square_le a b h = omega (arith, mul-le-mul_left a h, mul-le-mul_left b h)

-- ---- above

-- (x - g) squared, for x at least g
pub less_step : (g x t : ℕ) → x ≡ t + g → x * x ≡ t * t + 2 * (t * g) + g * g
less_step g x t e = rw e (omega arith)

pub inward_below : (g limit x y : ℕ) → g ≤ x → square x y ≤ limit + g * g → square (x - g) y ≤ limit
inward_below g limit x y h below =
    let t = x - g in
    let e = less_step g x t (omega arith) in
    omega arith

-- (g - x) squared, for x at most g
pub over_step : (g x t : ℕ) → g ≡ t + x → g * g ≡ t * t + 2 * (t * x) + x * x
over_step g x t e = rw e (omega arith)

pub over_below : (g limit x y : ℕ) → x < g → square x y ≤ limit → square y (g - x) ≤ limit + g * g
over_below g limit x y h below =
    let t = g - x in
    let e = over_step g x t (omega arith) in
    omega arith

over_axis : (g limit x y : ℕ) → x < g → 2 * (g * g) ≤ limit → y < g → square y (g - x) ≤ limit
over_axis g limit x y h room less =
    let a = square_le (g - x) g (omega arith) in
    let b = square_le y g (omega arith) in
    omega arith

-- for a bound that is at least the limit: a wheel may begin somewhat farther out
pub rolls_below : (g limit big : ℕ) (s : Spoke) (r : Roll) → limit ≤ big → 2 * (g * g) ≤ big → IsBelow g big s → IsRoll g limit s r →
    IsBelow g big (rolled g r s)
rolls_below g limit big s Outward more room below roll = record { all = omega (arith, roll.1); by_axis = λ _. omega (arith, roll.1) }
rolls_below g limit big s Diagonal more room below roll = record { all = omega (arith, roll.2); by_axis = λ _. omega (arith, roll.2) }
rolls_below g limit big s Inward more room below roll =
    let h = inward_below g big s.x s.y roll.0 below.all in
    record { all = omega (arith, h); by_axis = λ _. h }
rolls_below g limit big s Over more room below roll = record {
  all = over_below g big s.x s.y roll (below.by_axis roll);
  by_axis = λ less. over_axis g big s.x s.y roll room less;
}

-- ---- below, for a limit of at least the square of v + g

pub inward_above : (g v t y : ℕ) → (v + g) * (v + g) < square t (y + g) → v * v ≤ square t y
inward_above g v t y refused = elim (cases_lt y v) [
  | inl less ↦ (let le : y ≤ v = omega arith in let p = mul-le-mul_left g le in omega arith)
  | inr more ↦ (let p = square_le v y more in omega arith)
]

pub diagonal_above : (g v x y t : ℕ) → x ≡ t + g → (v + g) * (v + g) < square x (y + g) → v * v ≤ square t (y + g)
diagonal_above g v x y t e refused =
    let q = less_step g x t e in
    elim (cases_lt t v) [
      | inl less ↦ (let le : t ≤ v = omega arith in let p = mul-le-mul_left g le in omega arith)
      | inr more ↦ (let p = square_le v t more in omega arith)
    ]

pub over_above : (g v x y : ℕ) → x < g → v * v ≤ square x y → v * v ≤ square y (g - x) + g * g
over_above g v x y h above =
    let p = square_le x g (omega arith) in
    omega arith

below_square : (g x : ℕ) → x < g → x * x + g ≤ g * g
below_square g x h =
    let le : x ≤ g = omega arith in
    let more : x + 1 ≤ g = omega arith in
    omega (arith, mul-le-mul_left x le, mul-le-mul_left g more)

over_twice : (g v x y : ℕ) → x < g → y < g → 2 * (g * g) ≤ v * v → v * v ≤ square x y → v * v ≤ square y (g - x)
over_twice g v x y hx hy room above =
    let a = below_square g x hx in
    let b = below_square g y hy in
    absurd (omega arith)

pub rolls_above : (g v limit : ℕ) (s : Spoke) (r : Roll) → (v + g) * (v + g) ≤ limit → 2 * (g * g) ≤ v * v → IsAbove g v s → IsRoll g limit s r →
    IsAbove g v (rolled g r s)
rolls_above g v limit s Outward more room above roll =
    let h : v * v ≤ square s.x (s.y + g) = omega (arith, above.all) in
    record { all = omega (arith, h); by_axis = λ _. h }
rolls_above g v limit s Diagonal more room above roll =
    let h = diagonal_above g v s.x s.y (s.x - g) (omega (arith, roll.0)) (omega (arith, roll.1)) in
    record { all = omega (arith, h); by_axis = λ _. h }
rolls_above g v limit s Inward more room above roll =
    let h = inward_above g v (s.x - g) s.y (omega (arith, roll.1)) in
    record { all = omega (arith, h); by_axis = λ _. h }
rolls_above g v limit s Over more room above roll = record {
  all = over_above g v s.x s.y roll (above.by_axis roll);
  by_axis = λ less. over_twice g v s.x s.y roll less room (above.by_axis roll);
}
