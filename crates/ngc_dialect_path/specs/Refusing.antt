-- Refusals of lines beside a path.
use Rattle.std.specs.Prelude.{List, Option, Some, None, Result, Ok, Err}
use Rattle.ngc_compensation.specs.declared.refusal.Refusal.{Refusal}
use Rattle.ngc_dialect_rules.specs.declared.code.Code.{Code}
use Rattle.ngc_dialect_rules.specs.declared.fault.Cause.{Cause}
use Rattle.ngc_dialect_rules.specs.declared.fault.Cause.TheVariants as causes
use Rattle.ngc_dialect_rules.specs.declared.fault.Fault.{Fault}
use Rattle.ngc_dialect_rules.specs.Faults.{about_code}
use Rattle.ngc_dialect_rules.specs.Tables.{code_in}
use Rattle.ngc_dialect_path.specs.declared.path.Path.{Path}
use Rattle.ngc_dialect_path.specs.declared.path.Path.TheVariants.{On, Left}
use Rattle.ngc_dialect_path.specs.declared.tables.TheConstants as tables

-- a refusal of compensation is about a code
abbrev pub or_refused : {A : Type 0} → Code → Result A Refusal → Result A Fault
or_refused code (Ok a) = Ok a
or_refused code (Err e) = Err (about_code (causes.Compensation e) code)

-- ---- codes that aren't allowed

abbrev pub barred_codes : Option Path → List Code
barred_codes None = tables.NOT_AT_START
barred_codes (Some (On p)) = tables.NOT_WHILE_ON
barred_codes (Some (Left place)) = tables.NOT_BEFORE_LEAVING

abbrev pub why_barred : Option Path → Cause
why_barred (Some (Left place)) = causes.WhileLeaving
why_barred (Some (On p)) = causes.WhileCompensating
why_barred None = causes.WhileCompensating

abbrev pub fault_at : Cause → Option Code → Option Fault
fault_at cause None = None
fault_at cause (Some code) = Some (about_code cause code)

-- the first code of a line that isn't allowed there
abbrev pub barred : Option Path → List Code → Option Fault
barred path line = fault_at (why_barred path) (code_in (barred_codes path) line)
