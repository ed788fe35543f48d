use Rattle.std.proofs.Common.{arith}
use Rattle.ngc_place_report.specs.Staying.{staying_of}
use Rattle.ngc_place_report.proofs.StayingLaws.{all_counted}
use Rattle.ngc_place_report.proofs.staying.staying.Goals as goal

pub returns : goal.returns
returns c =
    all_counted c.loop-index.found (staying_of c.args.program.now) c.args.program.now.moving.now c.args.program.now.commands.now c.loop-index.index
    (omega (arith, c.loop-index-test.false, c.loop-index.auto.index-end)) c.loop-index.invariant.left
