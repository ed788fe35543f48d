use Rattle.std.proofs.Common.{◌≡◌, drop}
use Rattle.ngc_stock_report.specs.Uncut.{are_known}
use Rattle.ngc_stock_report.proofs.uncut.are_known.Given as goal

abbrev pub invariant-loop-command : goal.invariant-loop-command
invariant-loop-command l = are_known l.reached (drop l.command-index l.commands) ≡ are_known l.start l.commands
