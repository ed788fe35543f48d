use Rattle.ngc_run_through.proofs.UntouchedEvents.{load_goes, load_runs, load_breaks}
use Rattle.ngc_run_through.proofs.through.load_next.Goals as goal

pub returns-in-Ok-clause-goes : goal.returns-in-Ok-clause-goes
returns-in-Ok-clause-goes g c = load_goes _ _ _ _ _ _ _ c.requires.untouched c.requires.runs c.requires.room c.requires.left c.in-Ok.ensures.given

pub returns-in-Ok-clause-runs : goal.returns-in-Ok-clause-runs
returns-in-Ok-clause-runs g c = load_runs _ _ _ _ _ _ _ c.requires.runs c.requires.room c.requires.left c.in-Ok.ensures.given

pub returns-in-Err-clause-fault : goal.returns-in-Err-clause-fault
returns-in-Err-clause-fault g c = load_breaks _ _ _ _ c.requires.runs c.requires.room c.requires.left c.in-Err.ensures.fault
