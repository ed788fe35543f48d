use Rattle.std.proofs.Common.{◌≡◌, Err, sym, ◌∙◌, arith}
use Rattle.ngc_dialect_reader.specs.Item.{items_at}
use Rattle.ngc_dialect_reader.proofs.ItemSteps.{items_end}
use Rattle.ngc_dialect_reader.proofs.item.items_at.Goals as goal

pub returns : goal.returns
returns c =
    let last : items_at c.args.dialect c.loop-room.room c.loop-room.parts.items c.loop-room.rest.now ≡ Err c.refused.result =
    rw c.refused.ensures (items_end c.args.dialect c.loop-room.room c.loop-room.parts.items c.loop-room.rest.now (omega arith)) in
    sym c.loop-room.invariant.read ∙ last
