use Rattle.std.proofs.Common.{◌≡◌, drop}
use Rattle.ngc_stock_report.specs.Uncut.{has_feed}
use Rattle.ngc_stock_report.proofs.uncut.has_feed.Given as goal

abbrev pub invariant-loop-command : goal.invariant-loop-command
invariant-loop-command l = has_feed (drop l.command-index l.commands) ≡ has_feed l.commands
