use Rattle.std.proofs.Common.{◌≡◌, ◌++◌, drop}
use Rattle.ngc_commands.specs.Movement.{actions_of}
use Rattle.ngc_drawing.specs.Bodies.{sweeps}
use Rattle.ngc_drawing.specs.Sweeping.{sweeps_ahead}
use Rattle.ngc_drawing.proofs.sweep.sweeps.Given as goal

abbrev pub invariant-loop-command : goal.invariant-loop-command
invariant-loop-command g l =
    sweeps l.view l.tools l.commands l.motions
    ≡ l.list.items ++ sweeps_ahead l.view l.most l.tools l.sweeping (actions_of (drop l.command-index l.commands)) l.motions
