use Rattle.ngc_added_boxes.proofs.StoredBoxes.{one_stored}
use Rattle.ngc_added_boxes.proofs.boxes.Boxes.with_fixture.Goals as goal

pub invariant_of-boxes : goal.invariant_of-boxes
invariant_of-boxes c = one_stored c.boxes.inside c.args.self c.args.fixture c.boxes.invariant c.boxes.view_is c.requires.fewer c.requires.range
