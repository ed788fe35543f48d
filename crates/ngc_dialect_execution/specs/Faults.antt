-- The numbers of faults, and steps that may refuse a line. Our own.
use Rattle.std.specs.Prelude.{ℕ, ◌≡◌, Result, Ok, Err}
use Rattle.ngc_canonical.specs.Faults.{fault_number as plain_number}
use Rattle.ngc_dialect_flow.specs.Faults.{cause_number as flow_number}
use Rattle.ngc_dialect_flow.specs.declared.fault.Cause.TheVariants.{TooDeep}
use Rattle.ngc_dialect_parameters.specs.Faults.{cause_number as value_number}
use Rattle.ngc_dialect_parameters.specs.declared.fault.StoreFault.{StoreFault}
use Rattle.ngc_dialect_parameters.specs.declared.fault.StoreFault.TheVariants as stores
use Rattle.ngc_dialect_reader.specs.Faults.{fault_number as reading_number}
use Rattle.ngc_dialect_rules.specs.Faults.{fault_number as rule_number}
use Rattle.ngc_dialect_repeats.specs.Refusals.{refusal_number as polar_number}
use Rattle.ngc_dialect_repeats.specs.declared.refusal.PolarFault.{PolarFault}
use Rattle.ngc_dialect_repeats.specs.declared.refusal.PolarFault.TheVariants as polar
use Rattle.ngc_dialect_execution.specs.declared.fault.Cause.{Cause}
use Rattle.ngc_dialect_execution.specs.declared.fault.Cause.TheVariants as causes
use Rattle.ngc_dialect_execution.specs.declared.fault.DialectFault.{DialectFault}
use Rattle.ngc_dialect_execution.specs.declared.fault.DialectFault.TheVariants as faults
use Rattle.ngc_dialect_execution.specs.declared.fault.Refusal.{Refusal}
use Rattle.ngc_dialect_execution.specs.declared.fault.Refusal.TheVariants.{Because, Memory}

abbrev pub cause_number : Cause → ℕ
cause_number (causes.Reading fault) = reading_number fault.cause
cause_number (causes.Value cause) = value_number cause
cause_number causes.TooManyNames = 139
cause_number (causes.Flow cause) = flow_number cause
cause_number (causes.Rule fault) = rule_number fault.cause
cause_number (causes.Polar refusal) = polar_number refusal
cause_number causes.NothingSaved = 211
cause_number (causes.Plain fault) = plain_number fault

abbrev pub dialect_number : DialectFault → ℕ
dialect_number (faults.At line cause) = cause_number cause
dialect_number faults.Memory = 900

-- a refusal, with the line of the source
abbrev pub at_line : ℕ → Refusal → DialectFault
at_line line (Because cause) = faults.At line cause
at_line line Memory = faults.Memory

infixl 10 ◌>>=◌
abbrev pub ◌>>=◌ : {A B : Type 0} → Result A Cause → (A → Result B Cause) → Result B Cause
(Ok x) >>= f = f x
(Err e) >>= f = Err e

-- a result whose fault becomes a cause
abbrev pub caused : {A E : Type 0} → (E → Cause) → Result A E → Result A Cause
caused as_cause (Ok x) = Ok x
caused as_cause (Err e) = Err (as_cause e)

-- why polar words are refused
abbrev pub polar_cause : PolarFault → Cause
polar_cause (polar.Rule fault) = causes.Rule fault
polar_cause (polar.Polar refusal) = causes.Polar refusal

abbrev pub polar_caused : {A : Type 0} → Result A PolarFault → Result A Cause
polar_caused r = caused polar_cause r

-- why parameters aren't stored; the definitions know no lack of memory
abbrev pub stored_cause : StoreFault → Cause
stored_cause stores.TooDeep = causes.Flow TooDeep
stored_cause _ = causes.TooManyNames

-- A function's result, seen by view, is the definition's. Nothing is stated if memory ran out.
abbrev pub Says : {X Y : Type 0} → (X → Y) → Result X Refusal → Result Y Cause → Type 0
Says view (Ok x) says = says ≡ Ok (view x)
Says view (Err (Because cause)) says = says ≡ Err cause
Says view (Err Memory) says = Unit {0}

abbrev pub FailsBy : {Y : Type 0} → DialectFault → Result Y DialectFault → Type 0
FailsBy (faults.At line cause) says = says ≡ Err (faults.At line cause)
FailsBy faults.Memory says = Unit {0}

-- The same of a program. Nothing is stated if memory ran out.
abbrev pub ProgramSays : {X Y : Type 0} → (X → Y) → Result X DialectFault →
    Result Y DialectFault → Type 0
ProgramSays view (Ok x) says = says ≡ Ok (view x)
ProgramSays view (Err e) says = FailsBy e says
