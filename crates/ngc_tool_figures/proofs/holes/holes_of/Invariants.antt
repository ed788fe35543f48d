-- The holes so far and those of the other commands are all.
use Rattle.std.proofs.Common.{◌≡◌, ◌+◌, ◌≤◌, drop}
use Rattle.ngc_tool_figures.specs.Holes.{holes_from, holes_of}
use Rattle.ngc_tool_figures.proofs.holes.holes_of.Given as goal

abbrev pub invariant-loop-command : goal.invariant-loop-command
invariant-loop-command l = record {
  same : l.holes + holes_from l.number l.moment (drop l.command-index l.commands) ≡ holes_of l.number l.commands;
  few : l.holes ≤ l.command-index;
}
