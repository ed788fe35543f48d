use Rattle.std.proofs.Common.{refl}
use Rattle.std.proofs.lemmas.Result.{on_err_weaker}
use Rattle.ngc_run_through.proofs.QuietTicks.{on_ok_both, one_quiet, one_told, one_unwritten}
use Rattle.ngc_run_through.proofs.recorder.Recorder.add.Goals as goal

pub returns-then-is_quiet-clause-records : goal.returns-then-is_quiet-clause-records
returns-then-is_quiet-clause-records g c =
    one_quiet c.args.event c.args.outcome.now _ c.args.self.now _ _ c.count.ensures refl c.counted-told.ensures (c.is_quiet.ensures c.if-is_quiet.true) c.rest.ensures refl

pub returns-clause-fault : goal.returns-clause-fault
returns-clause-fault g c = on_err_weaker c.tell.result (one_unwritten c.args.outcome.now _ c.args.self.now _ _ c.counted-told.ensures) c.tell.ensures.fault

pub returns-clause-records : goal.returns-clause-records
returns-clause-records g c =
    on_ok_both c.tell.result
    (λ traced wrote. one_told c.args.event c.args.outcome.now _ c.args.self.now _ _ _ c.count.ensures refl c.counted-told.ensures traced wrote)
    c.tell.ensures.trace c.tell.ensures.text
