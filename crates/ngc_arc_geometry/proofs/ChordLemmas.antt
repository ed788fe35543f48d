-- The distance of the centre from the chord, in radius format.
use Rattle.std.proofs.Common.{ℕ, ◌+◌, ◌-◌, ◌*◌, ◌/◌, ◌≤◌, ◌<◌, inl, inr, arith}
use Rattle.std.proofs.lemmas.Bool.{cases_lt}
use Rattle.std.proofs.lemmas.Nat.{mul-le, div-add-mod'}
use Rattle.ngc_arc_geometry.proofs.Squares.{from_squares}

-- a factor above 0 cancels
pub without_factor : (d x y : ℕ) → 0 < d → d * x ≤ d * y → x ≤ y
without_factor d x y positive h =
    elim (cases_lt y x) [
      | inl more ↦ (let p : d * (y + 1) ≤ d * x = mul-le d (y + 1) d x (omega arith) (omega arith) in absurd (omega arith))
      | inr less ↦ less
    ]

-- a quotient that is rounded down, times the divisor
times_divisor : (s n d : ℕ) → s ≤ n / d → d * s ≤ n
times_divisor s n d h =
    let whole = div-add-mod' n d in
    let p : d * s ≤ d * (n / d) = mul-le d s d (n / d) (omega arith) h in
    omega arith

-- the square of a root of k2*e/(4*d2)
pub aside_square : (k2 e d2 h : ℕ) → h * h ≤ k2 * e / (4 * d2) → 4 * d2 * (h * h) ≤ k2 * e
aside_square k2 e d2 h root = times_divisor (h * h) (k2 * e) (4 * d2) root

pub aside_bound : (k2 q d2 h : ℕ) → 0 < d2 → d2 ≤ 4 * q → q ≤ 4000000000000000000 → k2 ≤ d2 → 4 * d2 * (h * h) ≤ k2 * (4 * q - d2) → h ≤ 2000000000
aside_bound k2 q d2 h positive reached limit part square =
    let whole : k2 * (4 * q - d2) ≤ d2 * (4 * q - d2) = mul-le k2 (4 * q - d2) d2 (4 * q - d2) part (omega arith) in
    let quarter : 4 * (h * h) ≤ 4 * q - d2 = without_factor d2 (4 * (h * h)) (4 * q - d2) positive (omega arith) in
    from_squares h 2000000000 (omega arith)

-- the bound also holds for a lesser number
pub aside_less : (k2 e d2 h s : ℕ) → s ≤ h → 4 * d2 * (h * h) ≤ k2 * e → 4 * d2 * (s * s) ≤ k2 * e
aside_less k2 e d2 h s less square =
    let squares : s * s ≤ h * h = mul-le s s h h less less in
    let whole : 4 * d2 * (s * s) ≤ 4 * d2 * (h * h) = mul-le (4 * d2) (s * s) (4 * d2) (h * h) (omega arith) squares in
    omega arith
