-- The name of an unknown table has at most 40 bytes.
use Rattle.std.proofs.Common.{ℕ, List, ◌≤◌, length, take, min, arith}
use Rattle.std.proofs.Math.Nat.{min-le_left, min-le_right}
use Rattle.std.proofs.lemmas.List.{length-take}

pub few : (n : ℕ) (bytes : List ℕ) → length (take (min n 40) bytes) ≤ 40
few n bytes =
    let size = length-take (min n 40) bytes in
    let shorter = min-le_left (min n 40) (length bytes) in
    let most = min-le_right n 40 in
    omega (arith, size, shorter, most)
