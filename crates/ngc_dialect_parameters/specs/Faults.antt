-- The numbers of faults.
use Rattle.std.specs.Prelude.{ℕ}
use Rattle.ngc_dialect_parameters.specs.declared.fault.Cause.{Cause}
use Rattle.ngc_dialect_parameters.specs.declared.fault.Cause.TheVariants as causes
use Rattle.ngc_dialect_parameters.specs.declared.fault.StoreFault.{StoreFault}
use Rattle.ngc_dialect_parameters.specs.declared.fault.StoreFault.TheVariants as faults

-- 131: the number of a parameter isn't whole. 132: no parameter has it. 134: the parameter isn't set,
-- or belongs to the control. 135: a function or an operator has no value here.
abbrev pub cause_number : Cause → ℕ
cause_number causes.IndexNotWhole = 131
cause_number causes.IndexOutOfRange = 132
cause_number causes.Unset = 134
cause_number causes.ReadOnly = 134
cause_number (causes.Value reason) = 135

-- 137: subprograms are nested too deep. 139: too many names. 900: out of memory.
abbrev pub store_number : StoreFault → ℕ
store_number faults.TooDeep = 137
store_number faults.TooManyNames = 139
store_number faults.Memory = 900
