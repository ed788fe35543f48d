use Rattle.std.proofs.Common.{◌∙◌, arith, sym}
use Rattle.ngc_run_through.proofs.Timed.{quiet_counted}
use Rattle.ngc_run_through.proofs.trace.after_quiet.Goals as goal

pub returns : goal.returns
returns c = c.saturating_add.ensures ∙ sym (quiet_counted c.args.ticks c.args.count (omega (arith, c.ranges.ticks)))
