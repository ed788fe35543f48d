-- The distance that is printed in words: whole thousandths of a millimetre, rounded up. Our own.
use Rattle.std.specs.Prelude.{ℕ, ◌*◌, ◌≤◌}
use Rattle.std.specs.Int.{div_ceil}

-- it isn't less than the exact distance
abbrev pub PrintedIsEnough : Type 0
PrintedIsEnough = (n : ℕ) → n ≤ div_ceil n 1000 * 1000
