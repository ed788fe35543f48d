use Rattle.std.proofs.Common.{◌∙◌, ap}
use Rattle.ngc_added_boxes.specs.Placing.{in_machine}
use Rattle.ngc_added_boxes.proofs.Extended.{made_more, range_more}
use Rattle.ngc_added_boxes.proofs.placing.extend.Goals as goal

pub loop-one-preserved : goal.loop-one-preserved
loop-one-preserved g c =
    let origins = c.args.origins.now in
    let own = c.args.fixtures.now.items in
    let is = c.in_machine.ensures ∙ ap (in_machine origins) c.one-item.is in
    record {
      made = made_more origins own c.loop-one.fixtures.items c.push.new.self.items c.args.added.now c.loop-one.one-index _ c.in_machine.result c.loop-one-test.true
          c.loop-one.invariant.made is c.in_ok-push.ensures.items;
      range = range_more origins own c.loop-one.fixtures.items c.push.new.self.items c.args.added.now c.loop-one.one-index _ c.in_machine.result
          c.loop-one-test.true c.loop-one.invariant.made is c.in_ok-push.ensures.items c.requires.count c.requires.each c.loop-one.invariant.range;
    }
