use Rattle.std.proofs.Common.{◌^◌, ◌+◌, arith, sym, ◌∙◌}
use Rattle.ngc_run_log.proofs.FeedingLaws.{plain_cut, plain_fed}
use Rattle.ngc_run_log.proofs.EventProgress.{few_turns}
use Rattle.ngc_run_log.proofs.feeding.send_line.Goals as goal

pub returns-in-Ok-run_line-clause-fed : goal.returns-in-Ok-run_line-clause-fed
returns-in-Ok-run_line-clause-fed g c =
    plain_fed _ _ _ _ _ _ _ _ c.args.line.now.event _ (sym c.takes_loads.ensures ∙ c.if-takes_loads.false) c.in-Ok-run_line.ensures.recorded

pub returns-in-Ok-run_line-clause-few : goal.returns-in-Ok-run_line-clause-few
returns-in-Ok-run_line-clause-few g c = λ n few.
    few_turns _ _ _ _ _ _ _ c.args.line.now.event c.args.line.now.times n (n + 2 ^ 43) c.in-Ok-run_line.ensures.recorded few
    (omega (arith, c.in-Ok-run_line.ensures.times))

pub returns-in-Err-run_line-clause-cut : goal.returns-in-Err-run_line-clause-cut
returns-in-Err-run_line-clause-cut g c =
    plain_cut _ _ _ _ _ _ c.args.line.now.event _ (sym c.takes_loads.ensures ∙ c.if-takes_loads.false) c.in-Err-run_line.ensures.fault
