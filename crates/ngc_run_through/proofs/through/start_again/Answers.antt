use Rattle.ngc_run_through.proofs.UntouchedEvents.{start_goes, start_runs, start_breaks}
use Rattle.ngc_run_through.proofs.through.start_again.Goals as goal

pub returns-in-Ok-clause-goes : goal.returns-in-Ok-clause-goes
returns-in-Ok-clause-goes g c = start_goes _ _ _ _ _ _ _ c.requires.untouched c.requires.stops c.in-Ok.ensures.given

pub returns-in-Ok-clause-runs : goal.returns-in-Ok-clause-runs
returns-in-Ok-clause-runs g c = start_runs _ _ _ _ _ _ _ c.in-Ok.ensures.given

pub returns-in-Err-clause-fault : goal.returns-in-Err-clause-fault
returns-in-Err-clause-fault g c = start_breaks _ _ _ _ c.requires.stops c.in-Err.ensures.fault
