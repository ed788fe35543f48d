use Rattle.std.proofs.Common.{[], ◌∷◌}
use Rattle.ngc_run_through.specs.Log.{log}
use Rattle.ngc_run_through.proofs.RunParts.{begun_more}
use Rattle.ngc_run_through.proofs.trace.write_outcome.Goals as goal

pub returns-in-Err-clause-fault : goal.returns-in-Err-clause-fault
returns-in-Err-clause-fault g c = begun_more _ _ c.args.chunk.now (log (c.args.outcome.now ∷ [])) c.in-Err.ensures.fault
