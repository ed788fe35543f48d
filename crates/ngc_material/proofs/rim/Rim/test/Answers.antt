use Rattle.std.proofs.Common.{sym, ◌∙◌}
use Rattle.ngc_material.proofs.Rims.{ok_then, one_piece, two_pieces}
use Rattle.ngc_material.proofs.rim.Rim.test.Goals as goal

pub returns-then-cross-ge0-clause-clear : goal.returns-then-cross-ge0-clause-clear
returns-then-cross-ge0-clause-clear c =
    let w = c.args.self.now in
    ok_then _ _ c.test_piece.result _ _
    (one_piece w.stock c.args.tool.now w.arc c.args.heights.now c.first-first.result c.last-last.result (sym w.holds.turns.full ∙ c.if-not-self.true)
    c.first-first.ensures c.last-last.ensures)
    c.test_piece.ensures.clear

pub returns-in-Ok-clause-clear : goal.returns-in-Ok-clause-clear
returns-in-Ok-clause-clear c =
    let w = c.args.self.now in
    ok_then _ _ c.test_piece-in-Ok.result _ _
    (two_pieces w.stock c.args.tool.now w.arc c.args.heights.now c.first-first.result c.opposite-opposite.result c.last-last.result
    c.first-first.ensures c.opposite-opposite.ensures c.last-last.ensures c.in-Ok.ensures.clear)
    c.test_piece-in-Ok.ensures.clear
