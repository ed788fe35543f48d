use Rattle.ngc_material.proofs.Sweeps.{arc_cut}
use Rattle.ngc_material.proofs.Within.{some_within}
use Rattle.ngc_material.proofs.sweep.cut_arc.Goals as goal

pub returns : goal.returns
returns c =
    arc_cut c.args.stock.now c.args.cylinder.now c.args.arc.now c.end.result c.end-2.result c.args.heights.now c.cut_chords.new.heights c.cut_disc.new.heights
    c.end.ensures.value c.end-2.ensures.value c.cut_chords.ensures c.cut_disc.ensures

pub cut_disc-requires-clause-within : goal.cut_disc-requires-clause-within
cut_disc-requires-clause-within c =
    some_within c.args.stock.now c.args.cylinder.now c.args.arc.now c.args.heights.now c.cut_chords.new.heights c.cut_chords.ensures c.requires.within
