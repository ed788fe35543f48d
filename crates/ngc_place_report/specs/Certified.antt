-- Laws: what is reported of an interval has a certificate. Our own.
use Rattle.std.specs.Prelude.{◌≡◌, ◌⊎◌, ◌≤◌, ℕ, ℤ, ◌≤ℤ◌, Some, Result, Ok}
use Rattle.ngc_fixed_length.specs.Length.{IsStep}
use Rattle.ngc_fixed_length.specs.declared.modes.System.{System}
use Rattle.ngc_certificate_text.specs.Certificate.{CertificateData}
use Rattle.ngc_certificate.specs.declared.fault.MakeFault.{MakeFault}
use Rattle.ngc_certificate.specs.Made.{IsMade}
use Rattle.ngc_job.specs.Job.{JobData}
use Rattle.ngc_place.specs.Shifts.{along}
use Rattle.ngc_place.specs.declared.axis.Axis.{Axis}
use Rattle.ngc_place.specs.declared.interval.Interval.{Interval}
use Rattle.ngc_shifted_program.specs.Executions.{Executed, Execution}
use Rattle.ngc_shifted_program.specs.Shifted.{MoveAt, executed_at}
use Rattle.ngc_place_report.specs.Findings.{IsAlongAxis, IsMarkedAlong}
use Rattle.ngc_place_report.specs.declared.placement.AlongAxis.{AlongAxis}
use Rattle.ngc_place_report.specs.declared.placement.Finding.TheVariants.{Fits}

-- a certificate exists for the commands at both settings of block delete
abbrev pub IsCertified : JobData → ℕ → Executed → Type 0
IsCertified j most others = (says : Result CertificateData MakeFault) →
    IsMade j.machine most others.off others.on says → (c : CertificateData) × (says ≡ Ok c)

-- with the origin shifted so, the program isn't refused, and a certificate exists
abbrev pub IsCertifiedAt : Execution → JobData → System → Axis → ℕ → ℤ → Type 0
IsCertifiedAt does j system axis most n =
    (others : Executed) × (executed_at does j system (along axis n) ≡ Some others)
    × IsCertified j most others

-- so it is at both ends of an interval that is reported
abbrev pub EndsAreCertified : Type 0
EndsAreCertified = (does : Execution) (j : JobData) (system : System) (axis : Axis) (most : ℕ)
    (a : AlongAxis) (i : Interval) (n : ℤ) → IsStep j.machine.step → 1 ≤ most → most ≤ 65535 →
    IsAlongAxis does j system axis most a → a.finding ≡ Fits i → (n ≡ i.from) ⊎ (n ≡ i.to) →
    IsCertifiedAt does j system axis most n

-- and at each shift from one end to the other at which the commands move as their marks state
abbrev pub ShiftsAreCertified : Type 0
ShiftsAreCertified = (does : Execution) (j : JobData) (system : System) (axis : Axis) (most : ℕ)
    (a : AlongAxis) (i : Interval) (n : ℤ) → IsStep j.machine.step → 1 ≤ most → most ≤ 65535 →
    (m : IsMarkedAlong does j system axis most a) → a.finding ≡ Fits i →
    i.from ≤ℤ n → n ≤ℤ i.to → MoveAt does j system m.off m.on (along axis n) →
    IsCertifiedAt does j system axis most n
