use Rattle.std.proofs.Common.{◌∙◌}
use Rattle.ngc_sure_contacts.proofs.Sinking.{none_swept, next_swept, all_swept}
use Rattle.ngc_sure_contacts.proofs.sweep.sweep.Goals as goal

pub loop-cylinder-init : goal.loop-cylinder-init
loop-cylinder-init c = record { count = c.requires.heights.count; swept = none_swept c.args.stock.now c.args.way.now c.args.heights.now }

pub loop-cylinder-preserved : goal.loop-cylinder-preserved
loop-cylinder-preserved c =
    let v = c.loop-cylinder.invariant in
    record {
      count = c.sweep_way.ensures.count ∙ v.count;
      swept = next_swept c.args.stock.now c.args.body.now c.loop-cylinder.cylinder-index c.cylinder-item.result c.args.way.now c.args.heights.now c.loop-cylinder.heights c.sweep_way.new.heights
          c.requires.heights.count c.loop-cylinder-test.true c.cylinder-item.is v.swept c.sweep_way.ensures;
    }

pub returns : goal.returns
returns c =
    all_swept c.args.stock.now c.args.body.now c.loop-cylinder.cylinder-index c.args.way.now c.args.heights.now c.loop-cylinder.heights
    c.loop-cylinder-test.false c.loop-cylinder.invariant.swept
