-- A value of at most 100 m is accepted as a length.
use Rattle.std.proofs.Common.{arith, ◌≡◌, ℤ, Result, Ok, ◌∙◌}
use Rattle.std.proofs.lemmas.Bool.Decides.{nat_tests}
use Rattle.ngc_fixed_length.specs.Limits.{LENGTH_LIMIT, IsLength}
use Rattle.ngc_fixed_length.specs.NumberFault.{within}
use Rattle.ngc_fixed_length.specs.declared.fault.NumberFault.{NumberFault}

taken : (z : ℤ) → IsLength z → within LENGTH_LIMIT z ≡ Ok z
taken z small = grind (arith, nat_tests)

pub answered : (r : Result ℤ NumberFault) (sum z : ℤ) → r ≡ within LENGTH_LIMIT sum → sum ≡ z → IsLength z → r ≡ Ok z
answered r sum z test same small = test ∙ (rw same (taken z small))
