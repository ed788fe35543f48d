-- The whole numbers between two bounds. Our own.
use Rattle.std.specs.Prelude.{ℤ, ◌≤ℤ◌, ◌⊎◌}
use Rattle.ngc_cells.specs.declared.span.Span.{Span}

-- x is at least the low bound and at most the high one
pub record IsIn (s : Span) (x : ℤ) : Type 0 where
  pub low : s.low ≤ℤ x
  pub high : x ≤ℤ s.high

-- x is in one of them
abbrev pub IsInEither : Span → Span → ℤ → Type 0
IsInEither a b x = IsIn a x ⊎ IsIn b x

-- x lies between two numbers that are in one of them
pub record IsBetween (a b : Span) (x : ℤ) : Type 0 where
  pub least : ℤ
  pub greatest : ℤ
  pub least_in : IsInEither a b least
  pub greatest_in : IsInEither a b greatest
  pub low : least ≤ℤ x
  pub high : x ≤ℤ greatest
