use Rattle.std.proofs.Common.{◌+◌, ap, refl}
use Rattle.ngc_run_through.proofs.QuietTicks.{quiet_recorded}
use Rattle.ngc_run_through.proofs.recorder.Recorder.rest.Goals as goal

pub returns : goal.returns
returns c = λ written.
    let report = c.args.self.now.report in
    quiet_recorded c.args.count c.args.self.now _ written refl (ap (λ n. record report { ticks = report.ticks + n }) c.from.ensures) c.rest.ensures refl
