use Rattle.ngc_run_log.proofs.RestLaws.{failed_before}
use Rattle.ngc_simulator.proofs.living.feed_all.Goals as goal

pub returns-then-aborts-clause-source : goal.returns-then-aborts-clause-source
returns-then-aborts-clause-source g c = failed_before _ _ _ c.feed_from.ensures.source
