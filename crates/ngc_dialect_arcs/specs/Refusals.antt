-- Why an arc is refused, and steps that may refuse it. Our own; 242 to 246 are the numbers of our
-- own language's arcs.
use Rattle.std.specs.Prelude.{ℕ, ℤ, Result, Ok, Err, Bool, if◌then◌else◌}
use Rattle.ngc_fixed_length.specs.Limits.{LENGTH_LIMIT}
use Rattle.ngc_fixed_length.specs.NumberFault.{within}
use Rattle.ngc_fixed_length.specs.declared.fault.NumberFault.{NumberFault}
use Rattle.ngc_dialect_arcs.specs.declared.refusal.ArcRefusal.{ArcRefusal}
use Rattle.ngc_dialect_arcs.specs.declared.refusal.ArcRefusal.TheVariants as why

abbrev pub refusal_number : ArcRefusal → ℕ
refusal_number why.NoCentre = 242
refusal_number why.OneOffset = 242
refusal_number why.RadiusTooSmall = 244
refusal_number why.EndIsStart = 245
refusal_number why.RadiusOutOfRange = 246
refusal_number why.RadiiDiffer = 248
refusal_number why.TooFar = 101
refusal_number _ = 211

infixl 10 ◌>>=◌
abbrev pub ◌>>=◌ : {A B : Type 0} → Result A ArcRefusal → (A → Result B ArcRefusal) → Result B ArcRefusal
(Ok x) >>= f = f x
(Err e) >>= f = Err e

abbrev pub refuse_if : Bool → ArcRefusal → Result (Unit {0}) ArcRefusal
refuse_if b e = if b then Err e else Ok tt

-- a number of nanometres as a length, of at most 100 metres
abbrev pub or_too_far : Result ℤ NumberFault → Result ℤ ArcRefusal
or_too_far (Ok l) = Ok l
or_too_far (Err e) = Err why.TooFar

abbrev pub length : ℤ → Result ℤ ArcRefusal
length z = or_too_far (within LENGTH_LIMIT z)
