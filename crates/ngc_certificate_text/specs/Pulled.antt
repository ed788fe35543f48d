-- The effect of a source's failure. Our own.
use Rattle.std.specs.Prelude.{◌≡◌, ℕ, Result, Ok, Err}
use Rattle.ngc_text.specs.Failures.{Rises}
use Rattle.ngc_certificate_text.specs.declared.fault.CertificateFault.{CertificateFault}
use Rattle.ngc_certificate_text.specs.declared.fault.CertificateFault.TheVariants as faults

-- the count of failures rises if the result is that the source failed, and stays the same otherwise
abbrev pub FailsByReading : {X : Type 0} → Result X CertificateFault → ℕ → ℕ → Type 0
FailsByReading (Ok x) old new = new ≡ old
FailsByReading (Err faults.WrongHeader) old new = new ≡ old
FailsByReading (Err (faults.BadLine n)) old new = new ≡ old
FailsByReading (Err (faults.OutOfRange n)) old new = new ≡ old
FailsByReading (Err faults.Memory) old new = new ≡ old
FailsByReading (Err faults.ReadFailed) old new = Rises old new
