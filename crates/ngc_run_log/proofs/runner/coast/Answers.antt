use Rattle.ngc_run_through.proofs.QuietTicks.{quiet_given}
use Rattle.ngc_run_log.proofs.runner.coast.Goals as goal

pub returns-clause-recorded : goal.returns-clause-recorded
returns-clause-recorded g c =
    λ written. quiet_given _ _ _ _ _ written c.args.event c.coast-ticks.result c.in-Tick.is c.coast-ticks.ensures.coasts (c.rest.ensures written)
