-- The digits so far are leading digits, and total is the number that they write after units.
use Rattle.std.proofs.Common.{◌≡◌, ℕ, ◌+◌, ◌-◌, ◌*◌, take, drop}
use Rattle.std.specs.Char.{is_ascii_digit}
use Rattle.std.specs.List.{prefix_len, fold}
use Rattle.ngc_dialect_reader.proofs.number.more_digits.Given as goal

abbrev pub invariant-loop-count : goal.invariant-loop-count
invariant-loop-count l = record {
  count : prefix_len is_ascii_digit l.s ≡ l.count + prefix_len is_ascii_digit (drop l.count l.s);
  units : l.total ≡ fold (λ (n : ℕ) (d : ℕ). 10 * n + (d - 48)) l.fn.units (take l.count l.s);
}
