use Rattle.std.proofs.Common.{◌≡◌, drop}
use Rattle.ngc_tool_figures.specs.Feedings.{feeding_from, feeding_of}
use Rattle.ngc_tool_figures.proofs.feeding.feeding_of.Given as goal

abbrev pub invariant-loop-command : goal.invariant-loop-command
invariant-loop-command l = feeding_from l.number l.moment l.feeding (drop l.command-index l.commands) ≡ feeding_of l.number l.commands
