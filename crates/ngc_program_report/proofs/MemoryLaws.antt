-- What is reported if memory runs out.
use Rattle.std.proofs.Common.{◌≡◌, ℕ, List, Option, Some, None, Result, Err, IsErrAnd, refl, subst, sym}
use Rattle.std.specs.Io.KnownBytes.{Keeps}
use Rattle.ngc_report.proofs.Converted.{turned}
use Rattle.ngc_report.specs.declared.report_fault.ReportFault.{ReportFault}
use Rattle.ngc_report.specs.declared.report_fault.ReportFault.TheVariants as faults
use Rattle.ngc_program_report.specs.JobReports.{FailsByWriting, Prints}

keeps_same : (known : Option (List ℕ)) → Keeps known known
keeps_same None = tt
keeps_same (Some bytes) = refl

-- want of memory, before anything is written
pub memory_tells : (IsText : List ℕ → Type 0) (known : Option (List ℕ)) (r : Result (Unit {0}) ReportFault) (fault : ReportFault) →
    IsErrAnd r (λ a. a ≡ fault) → fault ≡ faults.Memory → Prints IsText known known r
memory_tells IsText known r fault is memory =
    turned r fault (λ r. Prints IsText known known r) is
    (subst (λ (f : ReportFault). Prints IsText known known (Err f)) (sym memory) (keeps_same known))

-- and the sink has counted nothing
pub memory_counts : (count : ℕ) (r : Result (Unit {0}) ReportFault) (fault : ReportFault) → IsErrAnd r (λ a. a ≡ fault) → fault ≡ faults.Memory
    → FailsByWriting r count count
memory_counts count r fault is memory =
    turned r fault (λ r. FailsByWriting r count count) is (subst (λ (f : ReportFault). FailsByWriting (Err f) count count) (sym memory) refl)
