use Rattle.std.proofs.Common.{◌∙◌, arith}
use Rattle.ngc_sure_contacts.proofs.Sinking.{none_sunk, next_sunk, swept_line}
use Rattle.ngc_sure_contacts.proofs.sweep.sweep_pieces.Goals as goal

pub loop-part-init : goal.loop-part-init
loop-part-init c = record {
  count = c.requires.heights.count;
  sunk = none_sunk c.args.stock.now c.args.cylinder.now c.args.line.now.start c.args.line.now.end c.args.heights.now;
}

pub loop-part-preserved : goal.loop-part-preserved
loop-part-preserved c =
    let v = c.loop-part.invariant in
    let sunk = rw c.piece.ensures at c.sink.ensures in record {
      count = sunk.count ∙ v.count;
      sunk = next_sunk c.args.stock.now c.args.cylinder.now c.args.line.now.start c.args.line.now.end c.loop-part.part c.reach-radius.result c.piece_level-level.result
          c.args.heights.now c.loop-part.heights c.sink.new.heights c.reach-radius.ensures.value c.piece_level-level.ensures v.sunk sunk;
    }

pub returns : goal.returns
returns c =
    swept_line c.args.stock.now c.args.cylinder.now c.args.line.now.start c.args.line.now.end c.loop-part.part c.args.heights.now c.loop-part.heights
    c.requires.heights.grid c.requires.heights.count (omega (arith, c.loop-part-test.false, c.pieces-part-end.ensures.value)) c.loop-part.invariant.sunk
