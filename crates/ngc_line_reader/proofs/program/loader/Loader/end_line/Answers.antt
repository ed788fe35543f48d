use Rattle.std.proofs.Common.{◌∷◌}
use Rattle.ngc_line_reader.proofs.TakenPieces.{whole_line, cut_line, empty_items}
use Rattle.ngc_line_reader.proofs.program.loader.Loader.end_line.Goals as goal

pub returns-then-is_empty-clause-step : goal.returns-then-is_empty-clause-step
returns-then-is_empty-clause-step g c lines parts rest =
    let empty = empty_items c.is_empty.result c.args.self.now.cut.items c.is_empty.ensures c.if-is_empty.true in
    whole_line lines c.args.self.now (record c.args.self.now { found = c.take_line.new.self }) c.take_line.result c.args.piece.now rest parts empty empty
    c.requires.feedless c.take_line.ensures.step

pub returns-in-Ok-clause-step : goal.returns-in-Ok-clause-step
returns-in-Ok-clause-step g c lines parts rest =
    cut_line lines c.args.self.now c.keep.new.self c.end_cut.new.self c.end_cut.result c.args.piece.now rest parts c.in-Ok.ensures.loading.feedless
    (c.in-Ok.ensures.step lines parts (10 ∷ rest)) c.end_cut.ensures.empty c.end_cut.ensures.step
