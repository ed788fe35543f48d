-- The numbers of faults.
use Rattle.std.specs.Prelude.{ℕ}
use Rattle.ngc_dialect_reader.specs.declared.fault.Cause.{Cause}
use Rattle.ngc_dialect_reader.specs.declared.fault.Cause.TheVariants as causes

-- 111: the line is too long. 112: a control character. 123: this dialect can't read the line from
-- here.
abbrev pub fault_number : Cause → ℕ
fault_number causes.LineTooLong = 111
fault_number causes.ControlCharacter = 112
fault_number _ = 123
