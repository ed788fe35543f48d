use Rattle.std.proofs.Common.{[], ◌∷◌}
use Rattle.ngc_run_through.specs.Times.{timed_log}
use Rattle.ngc_run_through.proofs.RunParts.{begun_more}
use Rattle.ngc_run_through.proofs.trace.write_timed.Goals as goal

pub returns-in-Err-clause-fault : goal.returns-in-Err-clause-fault
returns-in-Err-clause-fault g c = begun_more _ _ c.args.chunk.now (timed_log c.args.ticks.now (c.args.outcome.now ∷ [])) c.in-Err.ensures.fault
