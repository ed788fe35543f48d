-- Checks in order, and the results that a call may have. Our own.
use Rattle.std.specs.Prelude.{◌≡◌, ◌≢◌, Bool, Result, Ok, Err, if◌then◌else◌}
use Rattle.ngc_machine_files.specs.declared.fault.FileFault.{FileFault}
use Rattle.ngc_machine_files.specs.declared.fault.FileFault.TheVariants.{Memory}

-- the first check's refusal, or the second check's result if the first one passes
infixl 10 ◌>>◌
abbrev pub ◌>>◌ : {A : Type 0} → Result (Unit {0}) FileFault → Result A FileFault →
    Result A FileFault
(Ok x) >> r = r
(Err e) >> r = Err e

abbrev pub refuse_unless : Bool → FileFault → Result (Unit {0}) FileFault
refuse_unless b e = if b then Ok tt else Err e

-- the result, seen through a view, equals the definition's, unless memory was refused
abbrev pub FileResultIs : {X Y : Type 0} → (X → Y) → Result X FileFault → Result Y FileFault → Type 0
FileResultIs view (Ok x) says = says ≡ Ok (view x)
FileResultIs view (Err e) says = e ≢ Memory → says ≡ Err e
