use Rattle.std.proofs.Common.{arith}
use Rattle.ngc_run_through.proofs.UntouchedTicks.{quiet_coasts}
use Rattle.ngc_run_through.proofs.through.coast.Goals as goal

pub returns : goal.returns
returns g c = λ written.
    quiet_coasts c.coast-count.result _ _ _ _ written c.requires.untouched c.requires.runs c.requires.some c.requires.next c.coast-count.ensures.job c.coast-count.ensures.accepted
    c.coast-count.ensures.coasts
    (omega (arith, c.dwelt-dwelt.ensures.value, c.dwelt-dwelt.ensures.few)) (c.rest.ensures written)
