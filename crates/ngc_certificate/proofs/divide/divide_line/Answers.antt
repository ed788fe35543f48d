use Rattle.ngc_certificate.proofs.Division.{piece_added}
use Rattle.ngc_certificate.proofs.divide.divide_line.Goals as goal

pub loop-k-preserved : goal.loop-k-preserved
loop-k-preserved g c =
    piece_added c.args.step c.args.start.now c.args.end.now c.args.count c.loop-k.k _ _ _ _ _
    c.cuts_of.ensures.from c.cuts_of.ensures.to c.line_piece.ensures c.loop-k.invariant c.in_ok-push.ensures.items
