use Rattle.std.proofs.Common.{sym, ◌∙◌}
use Rattle.ngc_stock.specs.Stocks.{sigma}
use Rattle.ngc_material.proofs.Chords.{follows}
use Rattle.ngc_material.proofs.rim.Rim.chord.Goals as goal

pub returns-clause-chord : goal.returns-clause-chord
returns-clause-chord c =
    let w = c.args.self.now in
    follows w.arc (sigma w.stock.grid) w.sector w.band c.args.first.now c.args.last.now w.holds.turns w.holds.near (sym c.has.ensures ∙ c.if-not-has.false)
