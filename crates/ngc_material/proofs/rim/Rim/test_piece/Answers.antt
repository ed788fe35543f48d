use Rattle.ngc_material.proofs.Rims.{no_chords, one_chord}
use Rattle.ngc_material.proofs.rim.Rim.test_piece.Goals as goal

pub loop-index-init : goal.loop-index-init
loop-index-init c = no_chords c.args.self.now.stock c.args.tool.now c.args.self.now.arc c.args.heights.now c.args.first

pub loop-index-preserved : goal.loop-index-preserved
loop-index-preserved c =
    let w = c.args.self.now in
    one_chord w.stock c.args.tool.now w.arc c.args.heights.now c.args.first c.loop-index.start c.at-end.result c.loop-index.invariant
    c.in-Ok.ensures.chord c.in-Ok.ensures.turns c.in-Ok.ensures.clear
