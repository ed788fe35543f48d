-- Why a call isn't begun: what is printed, and the exit status. Our own.
use Rattle.std.specs.Prelude.{ℕ, List, codes}
use Rattle.ngc_job_calls.specs.declared.fault.CallFault.{CallFault}
use Rattle.ngc_job_calls.specs.declared.fault.CallFault.TheVariants as faults

abbrev pub text_of : CallFault → List ℕ
text_of (faults.Usage text) = text.now
text_of faults.Memory = codes "ngc: fault 900\n"
text_of faults.Unread = codes "ngc: fault 901\n"
text_of (faults.Refused text) = text.items

abbrev pub status_of : CallFault → ℕ
status_of (faults.Usage text) = 2
status_of faults.Memory = 1
status_of faults.Unread = 1
status_of (faults.Refused text) = 3
