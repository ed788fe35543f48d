use Rattle.ngc_run_through.proofs.RunResults.{safe_of, in_time_of}
use Rattle.ngc_run_through.proofs.WholeRun.{end_of}
use Rattle.ngc_run_through.proofs.timing.time_through.Goals as goal

pub time_all-requires-clause-safe : goal.time_all-requires-clause-safe
time_all-requires-clause-safe g c = safe_of c.args.accepted c.args.block_delete _ c.machine-machine.ensures.accepted c.in-Ok.ensures.made.0

pub time_all-requires-clause-in_time : goal.time_all-requires-clause-in_time
time_all-requires-clause-in_time g c = in_time_of c.args.accepted c.args.block_delete _ c.machine-machine.ensures.accepted c.in-Ok.ensures.made.0

pub time_all-requires-clause-has_end : goal.time_all-requires-clause-has_end
time_all-requires-clause-has_end g c = end_of c.args.accepted c.args.block_delete _ c.machine-machine.ensures.accepted c.in-Ok.ensures.made.0
