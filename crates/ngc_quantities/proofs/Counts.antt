-- The number of bytes at the beginning of a text, the number that digits write, and quotients.
use Rattle.std.proofs.Common.{ℕ, ◌*◌, ◌/◌, ◌≤◌}
use Rattle.std.proofs.Math.Nat.{div-le_of_le-mul}
use Rattle.std.proofs.lemmas.List.Folds.{length-prefix_len}
use Rattle.std.proofs.lemmas.List.Sums.{fold_more}

pub ruleset counted = length-prefix_len

pub ruleset valued = fold_more

pub quotient_within : (top bottom most : ℕ) → top ≤ bottom * most → top / bottom ≤ most
quotient_within top bottom most h = div-le_of_le-mul bottom h
