use Rattle.std.proofs.Common.{sym, ◌∙◌, arith}
use Rattle.ngc_dialect_reader.specs.declared.switches.Switches.{Switches}
use Rattle.ngc_dialect_reader.proofs.ShortWords.{item_step}
use Rattle.ngc_dialect_reader.proofs.item.short_words.Goals as goal

pub loop-room-preserved : goal.loop-room-preserved
loop-room-preserved c = record {
  read = λ (d : Switches). sym (item_step d c.loop-room.room c.loop-room.parts.items c.loop-room.rest.now c.short_word.new.parts.items c.in-Some.afterwards.now
      (omega arith) (c.in-Some.ensures.read d)) ∙ c.loop-room.invariant.read d;
}
