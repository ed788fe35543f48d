use Rattle.std.proofs.Common.{arith}
use Rattle.ngc_machine_files.specs.Machine.{file_of}
use Rattle.ngc_planner.proofs.ArcFeedLaws.{target_on_some}
use Rattle.ngc_planner.proofs.BoundLaws.{ranges_of}
use Rattle.ngc_planner.proofs.arc_feed.target_on.Goals as goal

pub returns-clause-least : goal.returns-clause-least
returns-clause-least g c = λ moves some. (
    let least = target_on_some c.args.action.now c.args.n c.args.percent c.args.position.now (file_of c.args.machine.now) (ranges_of c.args.machine.now)
    moves some in
    let cap = rw (c.cap_of.ensures.value, c.cap_at.ensures.value) at c.max-cap.ensures in
    let value = rw cap at c.aimed_at.ensures.value in
    omega (arith, least, value))
