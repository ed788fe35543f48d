use Rattle.ngc_run_through.proofs.UntouchedEvents.{tick_ticks, tick_breaks}
use Rattle.ngc_run_through.proofs.through.tick.Goals as goal

pub returns-in-Ok-clause-ticks : goal.returns-in-Ok-clause-ticks
returns-in-Ok-clause-ticks g c = rw c.ending_in.ensures (tick_ticks _ _ _ _ _ _ _ c.requires.untouched c.requires.runs c.requires.some c.requires.next c.in-Ok.ensures.given)

pub returns-in-Err-clause-fault : goal.returns-in-Err-clause-fault
returns-in-Err-clause-fault g c = tick_breaks _ _ _ _ c.requires.untouched c.requires.runs c.requires.some c.requires.next c.in-Err.ensures.fault
