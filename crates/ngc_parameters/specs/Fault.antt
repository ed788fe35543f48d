-- The numbers of the faults of values (our own).
use Rattle.std.specs.Prelude.{ℕ}
use Rattle.ngc_fixed_length.specs.NumberFault.{number_of as number_of_arithmetic}
use Rattle.ngc_parameters.specs.declared.fault.EvalFault.{EvalFault}
use Rattle.ngc_parameters.specs.declared.fault.EvalFault.TheVariants.{Number, IndexNotWhole}
use Rattle.ngc_parameters.specs.declared.fault.EvalFault.TheVariants.{IndexOutOfRange, TooDeep}
use Rattle.ngc_parameters.specs.declared.fault.EvalFault.TheVariants.{Memory}

abbrev pub number_of : EvalFault → ℕ
number_of (Number fault) = number_of_arithmetic fault
number_of IndexNotWhole = 131
number_of IndexOutOfRange = 132
number_of TooDeep = 133
number_of Memory = 900
