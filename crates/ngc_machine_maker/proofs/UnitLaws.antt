-- The length of a travel in a machine file.
use Rattle.std.proofs.Common.{◌≤◌, arith}
use Rattle.std.specs.Prelude.{ℤ, ◌-ℤ◌, unsigned_abs}
use Rattle.std.proofs.lemmas.Int.{ints}

pub short_travel : (low high : ℤ) → unsigned_abs low ≤ 3999000000 → unsigned_abs high ≤ 3999000000 → unsigned_abs (high -ℤ low) ≤ 7998000000
short_travel low high l h = omega (arith, ints)
