use Rattle.std.proofs.Common.{◌≡◌, drop}
use Rattle.ngc_stock_report.specs.Texts.{has_other_arcs}
use Rattle.ngc_stock_report.proofs.arcs.has_other_arcs.Given as goal

abbrev pub invariant-loop-command : goal.invariant-loop-command
invariant-loop-command l = has_other_arcs (drop l.command-index l.commands) ≡ has_other_arcs l.commands
