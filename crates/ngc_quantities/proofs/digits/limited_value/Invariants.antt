-- value is the number that the digits so far write, or the limit.
use Rattle.std.proofs.Common.{◌≡◌, take, min}
use Rattle.ngc_quantities.specs.Numbers.{digits_value}
use Rattle.ngc_quantities.proofs.digits.limited_value.Given as goal

abbrev pub invariant-loop-digit : goal.invariant-loop-digit
invariant-loop-digit l = l.value ≡ min (digits_value (take l.digit-index l.digits)) 1000000000000
