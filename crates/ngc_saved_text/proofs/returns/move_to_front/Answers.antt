use Rattle.std.proofs.Common.{sym, ◌∙◌, arith}
use Rattle.ngc_saved_text.proofs.returns.move_to_front.Goals as goal

pub loop-place-preserved : goal.loop-place-preserved
loop-place-preserved c =
    let i = c.loop-place.invariant in
    let same = c.move_byte-count.ensures.length ∙ i.1 in
    (c.move_byte-count.ensures.within, same, sym same, omega (arith, c.loop-place-test.true), c.move_byte-count.ensures.moved c.args.bytes.now i.4)
