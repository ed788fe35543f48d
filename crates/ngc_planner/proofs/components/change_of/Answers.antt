use Rattle.std.proofs.Common.{arith}
use Rattle.ngc_machine_files.specs.Machine.{file_of}
use Rattle.ngc_commands.specs.declared.command.Action.TheVariants.{Move}
use Rattle.ngc_planner.proofs.BoundLaws.{ranges_of}
use Rattle.ngc_planner.proofs.ComponentLaws.{change_some}
use Rattle.ngc_planner.proofs.components.change_of.Goals as goal

pub returns-in-Move-clause-least : goal.returns-in-Move-clause-least
returns-in-Move-clause-least g c =
    let some = change_some (file_of c.args.machine.now) (Move c.in-Move.motion) c.args.n (ranges_of c.args.machine.now) in
    omega (arith, some, c.change_along.ensures)
