use Rattle.std.proofs.Common.{◌≡◌, drop}
use Rattle.ngc_material.specs.Heights.{are_reached}
use Rattle.ngc_material.proofs.reach.are_reached.Given as goal

abbrev pub invariant-loop-command : goal.invariant-loop-command
invariant-loop-command l = are_reached (drop l.command-index l.commands) ≡ are_reached l.commands
