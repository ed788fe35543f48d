-- The digits so far are digits, and the size is theirs, or the bound.
use Rattle.std.proofs.Common.{◌≡◌, true, take}
use Rattle.std.specs.Str.{all_ascii_digits}
use Rattle.std.specs.Str.Parse.{digits_value}
use Rattle.ngc_text.specs.Decimals.{limited}
use Rattle.ngc_text.proofs.decimal.digits_size.Given as goal

abbrev pub invariant-loop-byte : goal.invariant-loop-byte
invariant-loop-byte l = record {
  digits : all_ascii_digits (take l.byte-index l.digits) ≡ true;
  size : l.size ≡ limited (digits_value 10 (take l.byte-index l.digits));
}
