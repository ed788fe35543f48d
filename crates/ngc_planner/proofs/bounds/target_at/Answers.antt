use Rattle.std.proofs.Common.{arith}
use Rattle.ngc_machine_files.specs.Machine.{file_of}
use Rattle.ngc_planner.proofs.BoundLaws.{target_some, ranges_of}
use Rattle.ngc_planner.proofs.bounds.target_at.Goals as goal

pub returns-clause-least : goal.returns-clause-least
returns-clause-least g c = λ moves some. (
    let least = target_some c.args.action.now c.args.n c.args.percent (file_of c.args.machine.now) (ranges_of c.args.machine.now) moves some in
    let value = rw c.cap_of.ensures.value at c.aimed_at.ensures.value in
    omega (arith, least, value))
