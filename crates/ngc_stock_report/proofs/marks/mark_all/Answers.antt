use Rattle.std.proofs.Common.{◌∙◌}
use Rattle.ngc_stock_report.proofs.Levels.{marks_all, marks_next, no_marks}
use Rattle.ngc_stock_report.proofs.marks.mark_all.Goals as goal

pub loop-one-init : goal.loop-one-init
loop-one-init c = record { count = c.requires.count; marks = no_marks c.args.grid.now c.args.levels.now }

pub loop-one-preserved : goal.loop-one-preserved
loop-one-preserved c =
    let v = c.loop-one.invariant in
    record {
      count = c.mark.ensures.count ∙ v.count;
      marks = marks_next c.args.grid.now c.args.found.now c.loop-one.one-index _ c.args.levels.now c.loop-one.levels c.mark.new.levels
          c.loop-one-test.true v.marks c.mark.ensures;
    }

pub returns : goal.returns
returns c = marks_all c.args.grid.now c.args.found.now c.loop-one.one-index c.args.levels.now c.loop-one.levels c.loop-one-test.false c.loop-one.invariant.marks
