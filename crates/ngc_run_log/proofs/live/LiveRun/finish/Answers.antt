use Rattle.std.proofs.Common.{subst, sym, ap}
use Rattle.ngc_events.specs.Arriving.{HaveArrived}
use Rattle.ngc_run_log.specs.Living.{LiveData}
use Rattle.ngc_run_log.proofs.live.LiveRun.finish.Goals as goal

pub returns : goal.returns
returns g c = λ text lines have.
    c.finish.ensures text lines (subst (λ l. HaveArrived text lines l) (sym (ap (λ (v : LiveData). v.arriving) c.self.view_is)) have)
