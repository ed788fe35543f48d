use Rattle.std.proofs.Common.{refl, subst}
use Rattle.ngc_run_through.specs.Switching.{AreSwitches}
use Rattle.ngc_run_log.proofs.LiveLaws.{nothing_fed}
use Rattle.ngc_run_log.proofs.live.LiveRun.new.Goals as goal

pub returns-clause-live : goal.returns-clause-live
returns-clause-live g c = λ written.
    nothing_fed c.args.form c.args.accepted c.args.block_delete _ _ c.position.result _ _ _ written c.machine-machine.ensures.accepted
    c.in-Ok-new.ensures.made.0 c.in-Ok-new.ensures.made.1 c.counts-first.ensures c.motors.ensures c.position.ensures c.first_paused-paused.ensures c.commands.ensures
    (subst (λ f. AreSwitches f c.commands.result.now c.in-Ok.switches.items) c.form_of.ensures c.in-Ok.ensures.are) refl c.new-2.ensures
