use Rattle.ngc_material.proofs.Sweeps.{some_join}
use Rattle.ngc_material.proofs.sweep.Sweep.cut.Goals as goal

pub returns-then-self : goal.returns-then-self
returns-then-self c =
    let w = c.args.self.now in
    some_join w.stock w.cylinder w.arc c.args.heights.now c.cut_piece.new.heights c.cut_piece-then-self.new.heights c.cut_piece.ensures c.cut_piece-then-self.ensures

pub returns-else-cross-ge0 : goal.returns-else-cross-ge0
returns-else-cross-ge0 c =
    let w = c.args.self.now in
    some_join w.stock w.cylinder w.arc c.args.heights.now c.cut_piece-else-cross-ge0.new.heights c.cut_piece-else-cross-ge0-2.new.heights
    c.cut_piece-else-cross-ge0.ensures c.cut_piece-else-cross-ge0-2.ensures
