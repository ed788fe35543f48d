use Rattle.std.proofs.Common.{refl}
use Rattle.ngc_added_boxes.proofs.ReadFixtures.{first_mistake}
use Rattle.ngc_added_boxes.proofs.reading.read_fixtures.Goals as goal

pub returns-in-Err : goal.returns-in-Err
returns-in-Err c =
    first_mistake c.args.list.now c.loop-text.text-index _ c.loop-text.boxes _ c.in-Err.mistake c.loop-text-test.true c.loop-text.invariant refl c.in-Err.ensures
