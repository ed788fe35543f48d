use Rattle.std.proofs.Common.{◌≡◌, drop}
use Rattle.ngc_tool_warnings.specs.Slips.{moves_on}
use Rattle.ngc_tool_warnings.proofs.slips.moves_on.Given as goal

abbrev pub invariant-loop-command : goal.invariant-loop-command
invariant-loop-command l = moves_on (drop l.command-index l.commands) ≡ moves_on l.commands
