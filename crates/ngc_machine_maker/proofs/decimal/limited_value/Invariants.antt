-- value is the number that the digits so far write, or the limit.
use Rattle.std.proofs.Common.{◌≡◌, take, min}
use Rattle.ngc_machine_maker.specs.Decimals.{digits_value}
use Rattle.ngc_machine_maker.proofs.decimal.limited_value.Given as goal

abbrev pub invariant-loop-digit : goal.invariant-loop-digit
invariant-loop-digit l = l.value ≡ min (digits_value (take l.digit-index l.digits)) 4294967296
