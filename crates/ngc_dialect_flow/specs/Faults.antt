-- The numbers of faults.
use Rattle.std.specs.Prelude.{ℕ}
use Rattle.ngc_dialect_flow.specs.declared.fault.Cause.{Cause}
use Rattle.ngc_dialect_flow.specs.declared.fault.Cause.TheVariants as causes

-- 136: a subprogram, label or end of a block is missing, isn't open or is there twice. 137: nested too
-- deep. 138: too many lines are executed. 211: words that don't belong together.
abbrev pub cause_number : Cause → ℕ
cause_number causes.LabelMissing = 136
cause_number causes.LabelTwice = 136
cause_number causes.EndMissing = 136
cause_number causes.NotOpen = 136
cause_number causes.NotCalled = 136
cause_number causes.TooDeep = 137
cause_number causes.TooManyLoops = 137
cause_number causes.TooManyLines = 138
cause_number causes.WordMissing = 211
cause_number causes.NotWhole = 211
cause_number causes.WordTwice = 211
