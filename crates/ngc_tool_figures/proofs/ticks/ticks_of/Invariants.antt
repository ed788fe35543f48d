use Rattle.std.proofs.Common.{◌≡◌, drop}
use Rattle.ngc_tool_figures.specs.Ticks.{ticks_from, ticks_of}
use Rattle.ngc_tool_figures.proofs.ticks.ticks_of.Given as goal

abbrev pub invariant-loop-command : goal.invariant-loop-command
invariant-loop-command l =
    ticks_from l.number l.moment l.ticks l.left (drop l.command-index l.commands) ≡ ticks_of l.number l.commands l.parts
