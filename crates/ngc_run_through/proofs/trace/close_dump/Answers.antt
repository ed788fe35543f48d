use Rattle.ngc_pulses.specs.Dumping.{closing_text}
use Rattle.ngc_run_through.proofs.RunParts.{begun_more}
use Rattle.ngc_run_through.proofs.trace.close_dump.Goals as goal

pub returns-in-Err-clause-fault : goal.returns-in-Err-clause-fault
returns-in-Err-clause-fault g c = begun_more _ _ c.args.chunk.now (closing_text c.args.dump.now) c.in-Err.ensures.fault
