-- Functions and operators. A value may be empty in Fanuc's dialect ("Custom macro", "Undefined
-- variable"): an empty value counts as 0, except that EQ and NE tell it from 0.
use Rattle.std.specs.Prelude.{ℤ, pos, neg_ℤ, ◌*ℤ◌, Bool, not, ◌&&◌, Option, Some, None, is_some, Result, Ok, Err}
use Rattle.std.specs.Prelude.{if◌then◌else◌}
use Rattle.ngc_dialect_reader.specs.declared.part.Function.{Function}
use Rattle.ngc_dialect_reader.specs.declared.part.Function.TheVariants as functions
use Rattle.ngc_dialect_reader.specs.declared.part.Operator.{Operator}
use Rattle.ngc_dialect_reader.specs.declared.part.Operator.TheVariants as operators
use Rattle.ngc_dialect_numbers.specs.declared.fault.NoValue.{NoValue}
use Rattle.ngc_dialect_numbers.specs.Numbers.{truth, sum, difference, product, quotient, modulo, size}
use Rattle.ngc_dialect_numbers.specs.Numbers.{floor, ceiling, rounded}
use Rattle.ngc_dialect_numbers.specs.Comparisons.{equals, is_below, is_at_most, both, either, one_of}
use Rattle.ngc_dialect_numbers.specs.Powers.{power}
use Rattle.ngc_dialect_numbers.specs.Circles.{sine, cosine}
use Rattle.ngc_dialect_numbers.specs.Tangents.{tangent}
use Rattle.ngc_dialect_numbers.specs.Arcs.{arc_sine, arc_cosine}
use Rattle.ngc_dialect_numbers.specs.SquareRoots.{square_root}
use Rattle.ngc_dialect_numbers.specs.Growth.{exponential, natural_logarithm}
use Rattle.ngc_dialect_parameters.specs.declared.fault.Cause.{Cause}
use Rattle.ngc_dialect_parameters.specs.declared.fault.Cause.TheVariants as causes

-- the number that a value counts as
abbrev pub number_of : Option ℤ → ℤ
number_of None = pos 0
number_of (Some z) = z

abbrev pub valued : Result ℤ NoValue → Result ℤ Cause
valued (Ok z) = Ok z
valued (Err reason) = Err (causes.Value reason)

-- an empty value has no sign
abbrev pub negated : Option ℤ → Option ℤ
negated None = None
negated (Some z) = Some (neg_ℤ z)

abbrev pub applied : Function → ℤ → Result ℤ Cause
applied functions.Absolute x = Ok (size x)
applied functions.ArcCosine x = valued (arc_cosine x)
applied functions.ArcSine x = valued (arc_sine x)
applied functions.Cosine x = Ok (cosine x)
applied functions.Exponential x = valued (exponential (x *ℤ pos 1000000))
applied functions.RoundDown x = Ok (floor x)
applied functions.RoundUp x = Ok (ceiling x)
applied functions.Logarithm x = valued (natural_logarithm x)
applied functions.Round x = Ok (rounded x)
applied functions.Sine x = Ok (sine x)
applied functions.SquareRoot x = valued (square_root x)
applied functions.Tangent x = valued (tangent x)

-- whether two values are both empty, or both numbers
abbrev pub are_alike : Option ℤ → Option ℤ → Bool
are_alike l r = if is_some l then is_some r else not (is_some r)

abbrev pub are_equal : Option ℤ → Option ℤ → Bool
are_equal l r = are_alike l r && equals (number_of l) (number_of r)

abbrev pub operated : Operator → Option ℤ → Option ℤ → Result ℤ Cause
operated operators.Power l r = valued (power (number_of l) (number_of r))
operated operators.Multiply l r = valued (product (number_of l) (number_of r))
operated operators.Divide l r = valued (quotient (number_of l) (number_of r))
operated operators.Modulo l r = valued (modulo (number_of l) (number_of r))
operated operators.Add l r = valued (sum (number_of l) (number_of r))
operated operators.Subtract l r = valued (difference (number_of l) (number_of r))
operated operators.Equal l r = Ok (truth (are_equal l r))
operated operators.NotEqual l r = Ok (truth (not (are_equal l r)))
operated operators.Greater l r = Ok (truth (is_below (number_of r) (number_of l)))
operated operators.NotLess l r = Ok (truth (is_at_most (number_of r) (number_of l)))
operated operators.Less l r = Ok (truth (is_below (number_of l) (number_of r)))
operated operators.NotGreater l r = Ok (truth (is_at_most (number_of l) (number_of r)))
operated operators.And l r = Ok (truth (both (number_of l) (number_of r)))
operated operators.Or l r = Ok (truth (either (number_of l) (number_of r)))
operated operators.Xor l r = Ok (truth (one_of (number_of l) (number_of r)))
