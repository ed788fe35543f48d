use Rattle.std.proofs.Common.{◌-◌, ◌∙◌, sym, length, arith}
use Rattle.ngc_material.proofs.LaterFeeds.{first_below, later_below, last_below}
use Rattle.ngc_material.proofs.below.find_below.Goals as goal

pub loop-command-init : goal.loop-command-init
loop-command-init c =
    let a = c.args in record {
      few = omega arith;
      found = first_below a.stock.now a.start.now a.commands.now;
    }

pub loop-command-preserved : goal.loop-command-preserved
loop-command-preserved c =
    let a = c.args in
    let v = c.loop-command.invariant in
    let e = c.in-Some.ensures.cases.0 in record {
      few = omega (arith, v.few, c.in-Some.ensures.cases.1);
      found = sym (later_below a.stock.now c.loop-command.reached c.after-reached.result a.commands.now c.loop-command.left.now c.in-Some.later.now c.in-Some.command.now
          c.loop-command.found c.with_below-found.result c.below_at.result e v.few c.after-reached.ensures c.below_at.ensures c.with_below-found.ensures) ∙ v.found;
    }

pub returns : goal.returns
returns c =
    let a = c.args in
    sym (last_below a.stock.now c.loop-command.reached (length a.commands.now - length c.loop-command.left.now) c.loop-command.left.now c.loop-command.found
    c.in_default.ensures.cases) ∙ c.loop-command.invariant.found
