-- Steps of execution, which may fail.
use Rattle.std.specs.Prelude.{Result, Ok, Err, Bool, if◌then◌else◌}
use Rattle.ngc_canonical.specs.declared.fault.Fault.{Fault}

infixl 10 ◌>>=◌
abbrev pub ◌>>=◌ : {A B : Type 0} → Result A Fault → (A → Result B Fault) → Result B Fault
(Ok x) >>= f = f x
(Err e) >>= f = Err e

-- refused if the test holds
abbrev pub refuse_if : Bool → Fault → Result (Unit {0}) Fault
refuse_if b e = if b then Err e else Ok tt

-- a result whose fault becomes the program's
abbrev pub faulted : {A E : Type 0} → (E → Fault) → Result A E → Result A Fault
faulted as_fault (Ok x) = Ok x
faulted as_fault (Err e) = Err (as_fault e)
