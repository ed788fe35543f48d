use Rattle.std.proofs.Common.{◌≡◌, take, map}
use Rattle.ngc_stock.specs.Discs.{ball_disc}
use Rattle.ngc_sure_contacts.proofs.discs.ball_at.Given as goal

abbrev pub invariant-loop-part : goal.invariant-loop-part
invariant-loop-part g l = l.discs.items ≡ map (ball_disc l.tool l.radius) (take l.part-index l.parts)
