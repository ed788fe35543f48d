use Rattle.std.proofs.Common.{◌≡◌, arith}
use Rattle.ngc_certificate.proofs.AlikeLaws.{same_by_pieces}
use Rattle.ngc_certificate.proofs.joiner.same_cuts.Goals as goal

pub returns-clause-yes : goal.returns-clause-yes
returns-clause-yes g c = λ is.
    let same : c.piece_count-on_count.result ≡ c.piece_count-off_count.result = omega (arith, c.if-off_count-on_count.false) in
    same_by_pieces (g.M.MotionList.entries c.args.off.now) (g.M.MotionList.entries c.args.on.now) c.args.i c.piece_count-off_count.result
    c.piece_count-off_count.ensures.value (omega (arith, same, c.piece_count-on_count.ensures.value))
    (λ j inside. c.loop-k.invariant j (omega (arith, inside, c.loop-k-test.false)))
