use Rattle.ngc_sure_contacts.specs.Maps.{IsUnder}
use Rattle.ngc_sure_contacts.proofs.Seeing.{next_through, all_through}
use Rattle.ngc_sure_contacts.proofs.seen.deepest_contact.Goals as goal

pub loop-cylinder-preserved : goal.loop-cylinder-preserved
loop-cylinder-preserved c =
    let s = c.args.stock.now in
    rw c.deeper-deepest.ensures
    (next_through s (IsUnder s c.args.heights.now) c.args.cylinders.now c.loop-cylinder.cylinder-index c.cylinder-item.result c.args.line.now.start c.args.line.now.end
    c.loop-cylinder.deepest c.line_contact-contact.result c.loop-cylinder-test.true c.cylinder-item.is c.loop-cylinder.invariant c.line_contact-contact.ensures)

pub returns : goal.returns
returns c =
    let s = c.args.stock.now in
    all_through s (IsUnder s c.args.heights.now) c.args.cylinders.now c.loop-cylinder.cylinder-index c.args.line.now.start c.args.line.now.end
    c.loop-cylinder.deepest c.loop-cylinder-test.false c.loop-cylinder.invariant
