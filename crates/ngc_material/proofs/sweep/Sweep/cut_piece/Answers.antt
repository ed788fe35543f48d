use Rattle.std.proofs.Common.{◌∙◌}
use Rattle.ngc_material.proofs.Sweeps.{some_join, some_count}
use Rattle.ngc_material.proofs.sweep.Sweep.cut_piece.Goals as goal

pub loop-index-preserved : goal.loop-index-preserved
loop-index-preserved c =
    let w = c.args.self.now in
    let v = c.loop-index.invariant in record {
      count = some_count w.stock w.cylinder w.arc c.loop-index.heights c.cut_chord.new.heights c.cut_chord.ensures ∙ v.count;
      cut = some_join w.stock w.cylinder w.arc c.args.heights.now c.loop-index.heights c.cut_chord.new.heights v.cut c.cut_chord.ensures;
    }
