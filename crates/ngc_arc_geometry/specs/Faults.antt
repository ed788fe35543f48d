-- Steps that may refuse an arc.
use Rattle.std.specs.Prelude.{ℕ, Result, Ok, Err, Bool, if◌then◌else◌}
use Rattle.ngc_arc_geometry.specs.declared.fault.ArcFault.{ArcFault}
use Rattle.ngc_arc_geometry.specs.declared.fault.ArcFault.TheVariants.{NoAxisWord, NoOffset}
use Rattle.ngc_arc_geometry.specs.declared.fault.ArcFault.TheVariants.{RadiiDiffer, RadiusTooSmall}
use Rattle.ngc_arc_geometry.specs.declared.fault.ArcFault.TheVariants.{EndIsStart, RadiusOutOfRange}

-- the number of a fault
abbrev pub number_of : ArcFault → ℕ
number_of NoAxisWord = 241
number_of NoOffset = 242
number_of (RadiiDiffer at_start at_end) = 243
number_of RadiusTooSmall = 244
number_of EndIsStart = 245
number_of RadiusOutOfRange = 246

-- a step whose result the next one takes, and a step before another
infixl 10 ◌>>=◌
abbrev pub ◌>>=◌ : {A B : Type 0} → Result A ArcFault → (A → Result B ArcFault) → Result B ArcFault
(Ok x) >>= f = f x
(Err e) >>= f = Err e

infixl 10 ◌>>◌
abbrev pub ◌>>◌ : {A B : Type 0} → Result A ArcFault → Result B ArcFault → Result B ArcFault
(Ok x) >> r = r
(Err e) >> r = Err e

abbrev pub refuse_if : Bool → ArcFault → Result (Unit {0}) ArcFault
refuse_if b e = if b then Err e else Ok tt
