use Rattle.std.proofs.Common.{◌∙◌, sym}
use Rattle.ngc_material.proofs.Sweeps.{one_cut}
use Rattle.ngc_material.proofs.sweep.Sweep.cut_chord.Goals as goal

pub returns-then-is_stretch : goal.returns-then-is_stretch
returns-then-is_stretch c =
    let w = c.args.self.now in
    one_cut w.stock w.cylinder w.arc w.sector w.band w.room w.radius w.level c.args.first.now c.args.last.now c.chord-chord.result c.args.heights.now c.lower.new.heights
    w.holds (sym c.has.ensures ∙ c.if-not-has.false) c.chord-chord.ensures c.lower.ensures
