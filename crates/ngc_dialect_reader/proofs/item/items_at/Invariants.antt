-- The rest of the text has the same reading as the whole.
use Rattle.std.proofs.Common.{◌≡◌, ◌≤◌}
use Rattle.ngc_dialect_reader.specs.Item.{items_at}
use Rattle.ngc_dialect_reader.proofs.item.items_at.Given as goal

abbrev pub invariant-loop-room : goal.invariant-loop-room
invariant-loop-room l = record {
  read : items_at l.dialect l.room l.parts.items l.rest ≡ items_at l.fn.dialect l.fn.room l.initial.parts.items l.fn.s;
}

abbrev pub decreases-loop-room : goal.decreases-loop-room
decreases-loop-room l = l.room
