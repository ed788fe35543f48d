use Rattle.std.proofs.Common.{◌∷◌, ◌∙◌}
use Rattle.ngc_machine_files.specs.Machine.{file_of}
use Rattle.ngc_checker.proofs.WalkLaws.{indices_step, move_step}
use Rattle.ngc_checker.proofs.command_walk.CommandWalk.next_motion.Goals as goal

pub returns-in-Move-clause-indices : goal.returns-in-Move-clause-indices
returns-in-Move-clause-indices g c =
    c.loop-command.invariant.indices
    ∙ indices_step c.loop-command.self.index c.args.self.now.index c.args.ahead.now c.loop-command.command-index c.command-item.result c.in-Move.motion
    c.loop-command-test.true c.command-item.is c.in-Move.is c.loop-command.invariant.index

pub returns-in-Move-clause-walk : goal.returns-in-Move-clause-walk
returns-in-Move-clause-walk g c entry entries =
    c.loop-command.invariant.walk (entry ∷ entries)
    ∙ move_step (file_of c.args.machine.now) c.args.setting c.loop-command.self c.args.self.now.index c.args.ahead.now c.loop-command.command-index
    c.command-item.result c.in-Move.motion c.end-self.result entry entries
    c.loop-command-test.true c.command-item.is c.in-Move.is c.end-self.ensures c.loop-command.invariant.index
