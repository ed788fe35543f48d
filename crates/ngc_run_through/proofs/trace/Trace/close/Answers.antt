use Rattle.std.proofs.Common.{◌++◌, sym, subst}
use Rattle.std.proofs.lemmas.Result.{on_err_weaker}
use Rattle.ngc_text.specs.Written.{AppendsPrefix}
use Rattle.ngc_run_through.specs.declared.trace.Trace.{Trace}
use Rattle.ngc_run_through.specs.Tracing.{last_text}
use Rattle.ngc_run_through.proofs.trace.Trace.close.Goals as goal

pub returns-in-Pulses-clause-fault : goal.returns-in-Pulses-clause-fault
returns-in-Pulses-clause-fault g c =
    let P : Trace → Type 0 = λ t. AppendsPrefix (g.W.Sink.written c.args.sink.now) (g.W.Sink.written c.close_dump.new.sink) (c.args.chunk.now ++ last_text t) in
    on_err_weaker c.close_dump.result (subst P (sym c.in-Pulses.is)) c.close_dump.ensures.fault
