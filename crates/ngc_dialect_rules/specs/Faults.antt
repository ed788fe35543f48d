-- Faults and their numbers, and steps that may refuse a line. Our own.
use Rattle.std.specs.Prelude.{ℕ, Option, Some, None, Result, Ok, Err, Bool, if◌then◌else◌}
use Rattle.ngc_compensation.specs.Refusals.{refusal_number as compensation_number}
use Rattle.ngc_dialect_arcs.specs.Refusals.{refusal_number}
use Rattle.ngc_dialect_rules.specs.declared.code.Code.{Code}
use Rattle.ngc_dialect_rules.specs.declared.fault.Cause.{Cause}
use Rattle.ngc_dialect_rules.specs.declared.fault.Cause.TheVariants as causes
use Rattle.ngc_dialect_rules.specs.declared.fault.About.TheVariants as about
use Rattle.ngc_dialect_rules.specs.declared.fault.Fault.{Fault}

abbrev pub fault_number : Cause → ℕ
fault_number causes.UnknownCode = 204
fault_number (causes.LeftOut what) = 205
fault_number causes.LengthTooLarge = 101
fault_number causes.FeedZero = 252
fault_number (causes.Arc refusal) = refusal_number refusal
fault_number causes.CycleTooFar = 221
fault_number causes.RetractBelowDepth = 231
fault_number causes.HoleCount = 232
fault_number causes.PeckNotAboveZero = 233
fault_number causes.NegativeDwell = 234
fault_number causes.SpindleOff = 235
fault_number causes.CycleInInverseTime = 236
fault_number causes.WhileCompensating = 223
fault_number causes.WhileLeaving = 223
fault_number causes.NoSuchTool = 222
fault_number (causes.Compensation refusal) = compensation_number refusal
fault_number _ = 211

-- a fault with the word that it is about
abbrev pub about_code : Cause → Code → Fault
about_code cause code = record { cause = cause; about = about.Code code }

abbrev pub about_letter : Cause → ℕ → Fault
about_letter cause letter = record { cause = cause; about = about.Letter letter }

infixl 10 ◌>>=◌
abbrev pub ◌>>=◌ : {A B : Type 0} → Result A Fault → (A → Result B Fault) → Result B Fault
(Ok x) >>= f = f x
(Err e) >>= f = Err e

-- refused if the test holds
abbrev pub refuse_if : Bool → Fault → Result (Unit {0}) Fault
refuse_if b e = if b then Err e else Ok tt

-- refused if there is a fault
abbrev pub refuse_of : Option Fault → Result (Unit {0}) Fault
refuse_of None = Ok tt
refuse_of (Some e) = Err e
