-- The size and the difference of radii that are nearly equal.
use Rattle.std.proofs.Common.{◌≡◌, ℕ, ◌+◌, ◌-◌, ◌*◌, ◌≤◌, true, ◌⊎◌, inl, inr, arith}
use Rattle.std.proofs.lemmas.Bool.{cases_lt}
use Rattle.std.proofs.lemmas.Bool.Decides.{nat_tests}
use Rattle.std.proofs.lemmas.Nat.{mul-le}
use Rattle.ngc_fixed_length.specs.Roots.{whole_root, whole_root_above}
use Rattle.ngc_fixed_length.proofs.RootLaws.{whole_root-greatest, whole_root_above-least}
use Rattle.ngc_arc_geometry.specs.Radii.{roots_within}
use Rattle.ngc_arc_geometry.proofs.Squares.{from_squares}

-- how much hi exceeds lo + t*t
excess : (lo t d : ℕ) → (d + 2 * lo) * (d + 2 * lo) ≤ 4 * lo * (d + lo + t * t) → d * d ≤ 4 * lo * (t * t)
excess lo t d h = omega arith

-- if s is at least the root of lo, hi exceeds lo + t*t by at most 2*s*t
excess_by_root : (lo t d s : ℕ) → lo ≤ s * s → d * d ≤ 4 * lo * (t * t) → d ≤ 2 * s * t
excess_by_root lo t d s root h =
    let both : lo * (t * t) ≤ (s * s) * (t * t) = mul-le lo (t * t) (s * s) (t * t) root (omega arith) in
    from_squares d (2 * s * t) (omega arith)

tests : (t lo hi : ℕ) → roots_within t lo hi ≡ true → (lo + hi ≤ t * t) ⊎ ((lo + hi - t * t) * (lo + hi - t * t) ≤ 4 * lo * hi)
tests t lo hi h = grind (arith, nat_tests)

-- if the test holds, the root of hi is at most s + t
root_bound : (t lo hi s : ℕ) → lo ≤ s * s → roots_within t lo hi ≡ true → hi ≤ (s + t) * (s + t)
root_bound t lo hi s root within =
    elim (tests t lo hi within) [
      | inl tiny ↦ (omega arith)
      | inr near ↦ (elim (cases_lt (lo + t * t) hi) [
        | inl more ↦ (let d = hi - (lo + t * t) in
            let hi_is : hi ≡ d + lo + t * t = omega arith in
            let rest_is : lo + hi - t * t ≡ d + 2 * lo = omega arith in
            let near_d : (d + 2 * lo) * (d + 2 * lo) ≤ 4 * lo * (d + lo + t * t) = rw (← rest_is, ← hi_is) near in
            let bound = excess_by_root lo t d s root (excess lo t d near_d) in
            omega arith)
        | inr less ↦ (omega arith)
      ])
    ]

-- the greater radius is at most the lesser plus the tolerance
pub greater_bound : (t lo hi : ℕ) → t ≤ 5080 → lo ≤ hi → lo + hi ≤ 2 * (2000006000 * 2000006000) → roots_within t lo hi ≡ true → hi ≤ 2000020000 * 2000020000
greater_bound t lo hi small order sum within =
    let root = root_bound t lo hi 2000006000 (omega arith) within in
    let square : (2000006000 + t) * (2000006000 + t) ≤ 2000020000 * 2000020000 =
    mul-le (2000006000 + t) (2000006000 + t) 2000020000 2000020000 (omega arith) (omega arith) in
    omega arith

-- the rounded roots differ by at most the tolerance plus 1
pub even_roots : (t lo hi : ℕ) → lo ≤ hi → hi ≤ 2000020000 * 2000020000 → roots_within t lo hi ≡ true → whole_root_above hi ≤ whole_root lo + t + 1
even_roots t lo hi order small within =
    let floor = whole_root-greatest lo (omega arith) in
    let ceil = whole_root_above-least hi (omega arith) in
    let bound = root_bound t lo hi (whole_root lo + 1) (omega (arith, floor.greatest)) within in
    let least = ceil.least (whole_root lo + 1 + t) bound in
    omega (arith, least)
