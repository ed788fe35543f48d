-- The series of sine and cosine: what they are, and how they are computed in units of 10^-18.
use Rattle.std.specs.Prelude.{ℕ, zero, suc, ◌+◌, ◌-◌, ◌*◌, ◌/◌, ◌≤◌, ◌<◌}

-- top / bottom
pub record Fraction : Type 0 where
  pub top : ℕ
  pub bottom : ℕ

-- 1 - s/(k(k+1)) (1 - s/((k+2)(k+3)) (1 - ..)) with this number of factors, for s = n / d
abbrev pub terms : ℕ → ℕ → ℕ → ℕ → Fraction
terms zero k n d = record { top = 1; bottom = 1 }
terms (suc count) k n d = record {
  top = d * (k * (k + 1)) * (terms count (k + 2) n d).bottom - n * (terms count (k + 2) n d).top;
  bottom = d * (k * (k + 1)) * (terms count (k + 2) n d).bottom;
}

-- the first terms of the series of the cosine of u / v, and one more than this number of them: 1 - x^2/2! + x^4/4! - ..
abbrev pub cosine_terms : ℕ → ℕ → ℕ → Fraction
cosine_terms count u v = terms count 1 (u * u) (v * v)

-- the same for the sine: x (1 - x^2/3! + x^4/5! - ..)
abbrev pub sine_terms : ℕ → ℕ → ℕ → Fraction
sine_terms count u v = record { top = u * (terms count 2 (u * u) (v * v)).top; bottom = v * (terms count 2 (u * u) (v * v)).bottom }

-- 10^18
abbrev pub WIDE : ℕ
WIDE = 1000000000000000000

-- a term of a series in units of 10^-18, with the terms after it
abbrev pub term : ℕ → ℕ → ℕ → ℕ
term factor s rest = WIDE - rest * s / (WIDE * factor)

-- the same as terms, rounded: s and the result are in units of 10^-18
abbrev pub series : ℕ → ℕ → ℕ → ℕ
series zero k s = WIDE
series (suc count) k s = term (k * (k + 1)) s (series count (k + 2) s)
