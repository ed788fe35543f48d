use Rattle.std.proofs.Common.{arith}
use Rattle.ngc_text.proofs.NumberTexts.{added}
use Rattle.ngc_text.proofs.chunk.Chunk.add_number.Goals as goal

pub returns-clause-text : goal.returns-clause-text
returns-clause-text g c =
    let inside = c.self.inside in
    let start = c.spell-start.result in
    rw (c.copy_from_slice.ensures.after, ← c.spell-start.ensures.text, ← c.self.view_is)
    (added inside.len _ start inside.bytes c.spell-start.new.room (omega (arith, c.self.invariant, c.self.told)) c.spell-start.ensures.within
    (omega (arith, c.spell-start.array_long, c.spell-start.ensures.within)))
