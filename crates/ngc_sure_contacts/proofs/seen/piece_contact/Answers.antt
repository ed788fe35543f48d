use Rattle.ngc_stock.specs.Stocks.{piece}
use Rattle.ngc_sure_contacts.specs.Contacts.{IsThrough}
use Rattle.ngc_sure_contacts.specs.Maps.{IsSeen, IsUnder}
use Rattle.ngc_sure_contacts.proofs.Seeing.{some_as, seen_piece}
use Rattle.ngc_sure_contacts.proofs.seen.piece_contact.Goals as goal

pub returns : goal.returns
returns c =
    let s = c.args.stock.now in
    let t = c.args.cylinder.now in
    let a = c.args.line.now.start in
    let b = c.args.line.now.end in
    let heights = c.args.heights.now in
    some_as c.contact_at.result (IsSeen s heights (piece a b c.args.part) c.radius.result c.piece_level.result) (IsThrough s (IsUnder s heights) t a b)
    (λ x h. seen_piece s t a b c.args.part c.radius.result c.piece_level.result heights x c.requires.heights.count c.requires.within c.requires.part c.radius.ensures.value c.piece_level.ensures h)
    (rw c.piece.ensures at c.contact_at.ensures)
