-- The digits so far are leading digits, and units is the number that they write, or the bound.
use Rattle.std.proofs.Common.{◌≡◌, ◌+◌, take, drop, min}
use Rattle.std.specs.Char.{is_ascii_digit}
use Rattle.std.specs.List.{prefix_len}
use Rattle.ngc_line_reader.specs.Numbers.{digits_value}
use Rattle.ngc_dialect_reader.proofs.number.count_digits.Given as goal

abbrev pub invariant-loop-count : goal.invariant-loop-count
invariant-loop-count l = record {
  count : prefix_len is_ascii_digit l.s ≡ l.count + prefix_len is_ascii_digit (drop l.count l.s);
  units : l.units ≡ min (digits_value (take l.count l.s)) 100000000000000;
}
