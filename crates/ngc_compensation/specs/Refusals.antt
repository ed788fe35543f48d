-- Why cutter compensation is refused, and steps that may refuse it. Our own.
use Rattle.std.specs.Prelude.{ℕ, Option, Some, None, Result, Ok, Err, Bool, if◌then◌else◌}
use Rattle.ngc_fixed_length.specs.declared.points.Point2.{Point2}
use Rattle.ngc_compensation.specs.declared.refusal.Refusal.{Refusal}
use Rattle.ngc_compensation.specs.declared.refusal.Refusal.TheVariants as why

abbrev pub refusal_number : Refusal → ℕ
refusal_number why.TooFar = 101
refusal_number why.PlaneYz = 211
refusal_number why.AlreadyOn = 223
refusal_number _ = 247

infixl 10 ◌>>=◌
abbrev pub ◌>>=◌ : {A B : Type 0} → Result A Refusal → (A → Result B Refusal) → Result B Refusal
(Ok x) >>= f = f x
(Err e) >>= f = Err e

abbrev pub refuse_if : Bool → Refusal → Result (Unit {0}) Refusal
refuse_if b e = if b then Err e else Ok tt

abbrev pub needed : Refusal → Option Point2 → Result Point2 Refusal
needed e (Some p) = Ok p
needed e None = Err e
