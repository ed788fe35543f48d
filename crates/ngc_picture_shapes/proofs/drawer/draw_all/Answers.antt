use Rattle.std.proofs.Common.{rules}
use Rattle.ngc_certificate_text.proofs.CollectedTexts.{one_more, stopped_at}
use Rattle.ngc_picture_shapes.specs.Spelling.{shape_text}
use Rattle.ngc_picture_shapes.proofs.drawer.draw_all.Goals as goal

pub returns-in-Err-clause-drawn : goal.returns-in-Err-clause-drawn
returns-in-Err-clause-drawn g c =
    stopped_at (shape_text c.args.unit.now.micrometres) c.args.shapes.now c.loop-shape.shape-index _ _ _ _ _ _ c.loop-shape-test.true
    c.shape-item.is c.loop-shape.invariant.front c.in-Err.ensures.text

pub loop-shape-preserved : goal.loop-shape-preserved
loop-shape-preserved g c = record {
  front = one_more (shape_text c.args.unit.now.micrometres) c.args.shapes.now c.loop-shape.shape-index _ _ _ _ _ _ _ c.loop-shape-test.true
      c.shape-item.is c.loop-shape.invariant.front c.in-Ok.ensures.text;
  failures = search rules;
}
