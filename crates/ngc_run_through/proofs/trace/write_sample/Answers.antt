use Rattle.std.proofs.Common.{Ok, ap}
use Rattle.std.proofs.lemmas.Result.{on_err_weaker}
use Rattle.ngc_run_through.proofs.Traces.{sampled_begun}
use Rattle.ngc_run_through.proofs.trace.write_sample.Goals as goal

pub returns-in-Ticked-clause-fault : goal.returns-in-Ticked-clause-fault
returns-in-Ticked-clause-fault g c =
    on_err_weaker c.tick.result
    (sampled_begun c.args.samples.now c.args.switch _ _ (Ok c.args.reply.now) _ _ c.args.chunk.now (ap Ok c.in-Ticked.is)) c.tick.ensures.fault
