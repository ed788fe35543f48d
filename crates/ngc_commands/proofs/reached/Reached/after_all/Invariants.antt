use Rattle.std.proofs.Common.{◌≡◌, drop}
use Rattle.ngc_commands.specs.Reached.{after_all}
use Rattle.ngc_commands.proofs.reached.Reached.after_all.Given as goal

abbrev pub invariant-loop-command : goal.invariant-loop-command
invariant-loop-command l = after_all l.reached (drop l.command-index l.commands) ≡ after_all l.fn.self l.fn.commands
