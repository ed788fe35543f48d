use Rattle.ngc_run_through.proofs.TwoParts.{front_begun_all}
use Rattle.ngc_run_through.proofs.recorder.Recorder.finish.Goals as goal

pub returns-in-Err-write_out-clause-fault : goal.returns-in-Err-write_out-clause-fault
returns-in-Err-write_out-clause-fault g c = front_begun_all _ _ _ _ _ c.in-Ok.ensures.text c.in-Err-write_out.ensures.fault
