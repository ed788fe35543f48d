use Rattle.std.proofs.Common.{◌≡◌, arith, length, sym, ◌∙◌}
use Rattle.std.proofs.lemmas.Grind.{common_steps}
use Rattle.ngc_certificate.proofs.CutPieces.{piece_cut, boxes_derived}
use Rattle.ngc_certificate.proofs.cutting.cut_arc.Goals as goal

pub returns-then-ends_at-clause-boxes : goal.returns-then-ends_at-clause-boxes
returns-then-ends_at-clause-boxes g c =
    let step = c.args.machine.now.step in
    let on_grid = c.new-cutter.result.on_grid in
    let items = c.push.new.self.items in
    let cut = piece_cut step c.args.arc.now on_grid c.loop.pieces.items items c.loop.point c.place_of-point.result c.in-Some.piece
    c.loop.invariant.cut c.new-cutter.ensures c.in-Some.ensures.bounds c.in_ok-push.ensures.items c.place_of-point.ensures in
    let count : c.len.result ≡ length items = grind (arith, common_steps) in
    boxes_derived step c.args.arc.now on_grid items c.place_of-point.result c.len.result cut c.new-cutter.ensures
    (sym c.is_large.ensures ∙ c.if-not-is_large.false) count

pub loop-preserved : goal.loop-preserved
loop-preserved g c = record {
  few = grind (arith, common_steps);
  good = grind (arith, common_steps);
  cut = piece_cut c.args.machine.now.step c.args.arc.now c.new-cutter.result.on_grid c.loop.pieces.items c.push.new.self.items c.loop.point
      c.place_of-point.result c.in-Some.piece c.loop.invariant.cut c.new-cutter.ensures c.in-Some.ensures.bounds c.in_ok-push.ensures.items
      c.place_of-point.ensures;
}
