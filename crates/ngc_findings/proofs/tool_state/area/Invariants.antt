use Rattle.std.proofs.Common.{◌≡◌, None, drop}
use Rattle.ngc_findings.specs.ToolStates.{area}
use Rattle.ngc_findings.proofs.tool_state.area.Given as goal

abbrev pub invariant-loop-command : goal.invariant-loop-command
invariant-loop-command l = area l.step l.found (drop l.command-index l.commands) ≡ area l.step None l.commands
