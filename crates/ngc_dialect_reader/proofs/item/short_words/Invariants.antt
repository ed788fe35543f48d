-- The rest of the text has the same reading as the whole, whatever the dialect.
use Rattle.std.proofs.Common.{◌≡◌}
use Rattle.ngc_dialect_reader.specs.declared.switches.Switches.{Switches}
use Rattle.ngc_dialect_reader.specs.Item.{items_at}
use Rattle.ngc_dialect_reader.proofs.item.short_words.Given as goal

abbrev pub invariant-loop-room : goal.invariant-loop-room
invariant-loop-room l = record {
  read : (d : Switches) → items_at d l.room l.parts.items l.rest ≡ items_at d 257 l.initial.parts.items l.fn.s;
}

abbrev pub decreases-loop-room : goal.decreases-loop-room
decreases-loop-room l = l.room
