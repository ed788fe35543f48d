use Rattle.std.proofs.Common.{arith}
use Rattle.ngc_machine_files.specs.Machine.{file_of}
use Rattle.ngc_planner.proofs.BoundLaws.{bound_some, ranges_of}
use Rattle.ngc_planner.proofs.bounds.bound_of.Goals as goal

pub returns-clause-least : goal.returns-clause-least
returns-clause-least g c = λ moves. (
    let least = bound_some c.args.action.now c.args.n (file_of c.args.machine.now) (ranges_of c.args.machine.now) moves in
    omega (arith, least))
