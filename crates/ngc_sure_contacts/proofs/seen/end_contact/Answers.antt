use Rattle.ngc_stock.specs.Stocks.{point_at}
use Rattle.ngc_sure_contacts.specs.Contacts.{IsThrough}
use Rattle.ngc_sure_contacts.specs.Maps.{IsSeen, IsUnder}
use Rattle.ngc_sure_contacts.proofs.Seeing.{some_as, seen_end}
use Rattle.ngc_sure_contacts.proofs.seen.end_contact.Goals as goal

pub returns : goal.returns
returns c =
    let s = c.args.stock.now in
    let t = c.args.cylinder.now in
    let a = c.args.line.now.start in
    let b = c.args.line.now.end in
    let heights = c.args.heights.now in
    some_as c.contact_at.result (IsSeen s heights (point_at b) c.radius.result c.end_level.result) (IsThrough s (IsUnder s heights) t a b)
    (λ x h. seen_end s t a b c.radius.result c.end_level.result heights x c.requires.heights.count c.requires.within c.radius.ensures.value c.end_level.ensures h)
    (rw c.end_point.ensures at c.contact_at.ensures)
