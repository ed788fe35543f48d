-- The range of a drawing's unit. Our own.
use Rattle.std.specs.Prelude.{ℤ, ◌≤◌, unsigned_abs}

-- in micrometres
abbrev pub IsUnit : ℤ → Type 0
IsUnit unit = unsigned_abs unit ≤ 300000000000000000
