-- Why polar words, and arcs of several turns, are refused, and steps that may refuse them. Our own.
use Rattle.std.specs.Prelude.{ℕ, ℤ, Option, Some, None, Result, Ok, Err}
use Rattle.ngc_fixed_length.specs.Limits.{LENGTH_LIMIT}
use Rattle.ngc_fixed_length.specs.NumberFault.{within}
use Rattle.ngc_fixed_length.specs.declared.fault.NumberFault.{NumberFault}
use Rattle.ngc_dialect_numbers.specs.Numbers.{limited}
use Rattle.ngc_dialect_numbers.specs.declared.fault.NoValue.{NoValue}
use Rattle.ngc_dialect_arcs.specs.Refusals.{refusal_number as arc_number}
use Rattle.ngc_dialect_rules.specs.declared.fault.Fault.{Fault}
use Rattle.ngc_dialect_repeats.specs.declared.refusal.PolarRefusal.{PolarRefusal}
use Rattle.ngc_dialect_repeats.specs.declared.refusal.PolarRefusal.TheVariants as why
use Rattle.ngc_dialect_repeats.specs.declared.refusal.PolarFault.{PolarFault}
use Rattle.ngc_dialect_repeats.specs.declared.refusal.PolarFault.TheVariants as faults

abbrev pub refusal_number : PolarRefusal → ℕ
refusal_number why.TooFar = 101
refusal_number (why.Arc refusal) = arc_number refusal
refusal_number _ = 211

infixl 10 ◌>>=◌
abbrev pub ◌>>=◌ : {A B E : Type 0} → Result A E → (A → Result B E) → Result B E
(Ok x) >>= f = f x
(Err e) >>= f = Err e

-- a length of at most 100 metres
abbrev pub or_too_far : Result ℤ NumberFault → Result ℤ PolarRefusal
or_too_far (Ok l) = Ok l
or_too_far (Err e) = Err why.TooFar

abbrev pub length : ℤ → Result ℤ PolarRefusal
length z = or_too_far (within LENGTH_LIMIT z)

-- a number in range
abbrev pub or_out_of_range : Result ℤ NoValue → Result ℤ PolarRefusal
or_out_of_range (Ok n) = Ok n
or_out_of_range (Err e) = Err why.TooFar

abbrev pub number : ℤ → Result ℤ PolarRefusal
number z = or_out_of_range (limited z)

-- a fault of the rules of codes, and one of polar words
abbrev pub ruled : {A : Type 0} → Result A Fault → Result A PolarFault
ruled (Ok x) = Ok x
ruled (Err e) = Err (faults.Rule e)

abbrev pub refused : {A : Type 0} → Result A PolarRefusal → Result A PolarFault
refused (Ok x) = Ok x
refused (Err e) = Err (faults.Polar e)

abbrev pub refuse_of : Option PolarRefusal → Result (Unit {0}) PolarRefusal
refuse_of None = Ok tt
refuse_of (Some e) = Err e
