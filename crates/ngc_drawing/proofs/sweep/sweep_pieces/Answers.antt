use Rattle.std.proofs.Common.{◌++◌, List, map, ◌∙◌}
use Rattle.std.proofs.lemmas.List.{at_drop_all}
use Rattle.ngc_certificate_text.specs.declared.piece.Piece.{Piece}
use Rattle.ngc_drawing.specs.Bodies.{sweep_of, joined}
use Rattle.ngc_drawing.proofs.Sweeps.{next_piece}
use Rattle.ngc_drawing.proofs.sweep.sweep_pieces.Goals as goal

pub loop-piece-preserved : goal.loop-piece-preserved
loop-piece-preserved g c = λ rest.
    let grows = rw c.of-next.ensures at c.in-Ok.ensures in
    rw (c.held_with.ensures, c.of-next.ensures)
    (c.loop-piece.invariant rest
    ∙ next_piece c.args.view c.args.most c.args.rank c.loop-piece.held c.loop-piece.list.items c.finish.new.list.items c.args.pieces.now
    c.loop-piece.piece-index c.piece-item.result rest
    c.loop-piece-test.true c.piece-item.is grows)

pub returns : goal.returns
returns g c = λ rest.
    c.loop-piece.invariant rest
    ∙ at_drop_all (λ (l : List Piece). c.loop-piece.list.items ++ joined c.args.view c.args.most c.loop-piece.held (map (sweep_of c.args.rank) l ++ rest))
    c.args.pieces.now c.loop-piece.piece-index c.loop-piece-test.false
