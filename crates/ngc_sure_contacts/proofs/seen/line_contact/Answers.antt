use Rattle.ngc_sure_contacts.specs.Contacts.{IsThrough}
use Rattle.ngc_sure_contacts.specs.Maps.{IsUnder}
use Rattle.ngc_sure_contacts.proofs.Seeing.{of_both}
use Rattle.ngc_sure_contacts.proofs.seen.line_contact.Goals as goal

pub loop-part-preserved : goal.loop-part-preserved
loop-part-preserved c =
    let s = c.args.stock.now in
    rw c.deeper-deepest.ensures
    (of_both c.loop-part.deepest c.piece_contact-contact.result (IsThrough s (IsUnder s c.args.heights.now) c.args.cylinder.now c.args.line.now.start c.args.line.now.end)
    c.loop-part.invariant c.piece_contact-contact.ensures)
