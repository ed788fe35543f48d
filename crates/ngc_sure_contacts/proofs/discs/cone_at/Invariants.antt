use Rattle.std.proofs.Common.{◌≡◌, take, map}
use Rattle.ngc_stock.specs.Discs.{cone_disc}
use Rattle.ngc_sure_contacts.proofs.discs.cone_at.Given as goal

abbrev pub invariant-loop-part : goal.invariant-loop-part
invariant-loop-part g l = l.discs.items ≡ map (cone_disc l.tool l.radius l.height) (take l.part-index l.parts)
