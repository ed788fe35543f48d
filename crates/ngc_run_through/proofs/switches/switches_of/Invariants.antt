use Rattle.std.proofs.Common.{◌≡◌, take}
use Rattle.ngc_run_through.specs.Switching.{switches}
use Rattle.ngc_run_through.proofs.switches.switches_of.Given as goal

abbrev pub invariant-loop-command : goal.invariant-loop-command
invariant-loop-command g l = l.list.items ≡ switches (take l.command-index l.commands)
