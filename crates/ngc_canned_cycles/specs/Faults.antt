-- The faults of a cycle, and their numbers. Our own.
use Rattle.std.specs.Prelude.{ℕ, ◌≡◌, Result, Ok, Err, Bool, if◌then◌else◌}
use Rattle.ngc_canned_cycles.specs.declared.fault.CycleFault.{CycleFault}
use Rattle.ngc_canned_cycles.specs.declared.fault.CycleFault.TheVariants.{RetractBelowBottom}
use Rattle.ngc_canned_cycles.specs.declared.fault.CycleFault.TheVariants.{BadRepeats, BadPeck}
use Rattle.ngc_canned_cycles.specs.declared.fault.CycleFault.TheVariants.{NegativeDwell}
use Rattle.ngc_canned_cycles.specs.declared.fault.CycleFault.TheVariants.{SpindleNotTurning}
use Rattle.ngc_canned_cycles.specs.declared.fault.CycleFault.TheVariants.{InverseTime, Memory}

infixl 10 ◌>>◌
abbrev pub ◌>>◌ : {A B : Type 0} → Result A CycleFault → Result B CycleFault → Result B CycleFault
(Ok x) >> r = r
(Err e) >> r = Err e

abbrev pub refuse_if : Bool → CycleFault → Result (Unit {0}) CycleFault
refuse_if b e = if b then Err e else Ok tt

abbrev pub number_of : CycleFault → ℕ
number_of RetractBelowBottom = 231
number_of BadRepeats = 232
number_of BadPeck = 233
number_of NegativeDwell = 234
number_of SpindleNotTurning = 235
number_of InverseTime = 236
number_of Memory = 900

-- a function's result, seen by view, is the definition's, unless memory ran out
abbrev pub Fails : {Y : Type 0} → CycleFault → Result Y CycleFault → Type 0
Fails Memory says = Unit {0}
Fails e says = says ≡ Err e

abbrev pub Gives : {X Y : Type 0} → (X → Y) → Result X CycleFault → Result Y CycleFault → Type 0
Gives view (Ok x) says = says ≡ Ok (view x)
Gives view (Err e) says = Fails e says
