use Rattle.std.proofs.Common.{ℕ, List, length, arith, ◌∙◌, ◌-◌, sym, subst}
use Rattle.ngc_material.proofs.DeepestFeeds.{kept_cuts, all_cuts}
use Rattle.ngc_stock.specs.declared.stock.Stock.{Stock}
use Rattle.ngc_stock.specs.Walk.{uncut}
use Rattle.ngc_material.specs.Heights.{AreHeights}
use Rattle.ngc_material.specs.Remains.{AreLeft}
use Rattle.ngc_material.specs.Walks.{with_feeds}
use Rattle.ngc_material.proofs.Remains.{kept_left, all_left}
use Rattle.ngc_material.proofs.Reports.{kept_found, all_found, later_reached}
use Rattle.ngc_material.proofs.walk.walk.Goals as goal

pub loop-command-preserved : goal.loop-command-preserved
loop-command-preserved g c =
    let v = c.loop-command.invariant in
    let m = c.loop-command.mounted in
    let e = c.in-Some.ensures.cases.0 in record {
      stock = c.in_ok-follow.ensures.stock ∙ v.stock;
      discs = c.in_ok-advance.ensures.discs;
      near = later_reached c.loop-command.left.now c.in-Some.later.now c.in-Some.command.now e v.near;
      few = omega (arith, v.few, c.in-Some.ensures.cases.1);
      found = kept_found c.args.stock.now c.args.table.now c.args.start.now m.reached c.advance.new.self.reached c.args.commands.now c.loop-command.left.now c.in-Some.later.now c.in-Some.command.now
          c.loop-command.material.heights.items c.follow.new.material.heights.items c.loop-command.traverses.items c.follow.new.traverses.items
          c.loop-command.feeds.items c.test.new.feeds.items
          e v.few c.in_ok-advance.ensures.reached (rw (v.stock, v.discs) at c.in_ok-follow.ensures.found) (rw (c.in_ok-follow.ensures.stock ∙ v.stock) at c.in_ok-test.ensures) v.found;
      cuts = kept_cuts c.args.stock.now c.args.table.now c.args.start.now m.reached c.advance.new.self.reached c.args.commands.now c.loop-command.left.now c.in-Some.later.now c.in-Some.command.now
          c.loop-command.material.heights.items c.follow.new.material.heights.items c.loop-command.traverses.items c.follow.new.traverses.items
          c.loop-command.cuts.items c.measure.new.cuts.items
          e v.few c.in_ok-advance.ensures.reached (rw (v.stock, v.discs) at c.in_ok-follow.ensures.found) (rw (v.stock, v.discs) at c.in_ok-measure.ensures) v.cuts;
      remains = kept_left c.args.stock.now c.args.table.now c.args.start.now m.reached c.advance.new.self.reached c.args.commands.now c.loop-command.left.now c.in-Some.later.now c.in-Some.command.now
          c.loop-command.material.heights.items c.follow.new.material.heights.items c.loop-command.traverses.items c.follow.new.traverses.items
          e v.few c.in_ok-advance.ensures.reached (rw (v.stock, v.discs) at c.in_ok-follow.ensures.found) v.remains;
    }

pub returns-clause-found : goal.returns-clause-found
returns-clause-found g c =
    let v = c.loop-command.invariant in
    all_found c.args.stock.now c.args.table.now c.args.start.now c.loop-command.mounted.reached c.args.commands.now c.loop-command.left.now c.loop-command.material.heights.items
    (length c.args.commands.now - length c.loop-command.left.now) c.loop-command.traverses.items c.loop-command.feeds.items c.in_default.ensures.cases v.found

pub returns-clause-cuts : goal.returns-clause-cuts
returns-clause-cuts g c =
    let v = c.loop-command.invariant in
    all_cuts c.args.stock.now c.args.table.now c.args.start.now c.loop-command.mounted.reached c.args.commands.now c.loop-command.left.now c.loop-command.material.heights.items
    (length c.args.commands.now - length c.loop-command.left.now) c.loop-command.traverses.items c.loop-command.cuts.items c.in_default.ensures.cases v.cuts

pub returns-clause-left : goal.returns-clause-left
returns-clause-left g c =
    let v = c.loop-command.invariant in
    subst (λ (hs : List ℕ). AreLeft c.args.stock.now c.args.table.now c.args.start.now (uncut c.args.stock.now) (with_feeds 0 c.args.commands.now c.loop-command.traverses.items) hs)
    (sym c.into_heights.ensures.items)
    (all_left c.args.stock.now c.args.table.now c.args.start.now c.loop-command.mounted.reached c.args.commands.now c.loop-command.left.now c.loop-command.material.heights.items
    (length c.args.commands.now - length c.loop-command.left.now) c.loop-command.traverses.items c.in_default.ensures.cases v.remains)

pub returns-clause-heights : goal.returns-clause-heights
returns-clause-heights g c = subst (λ (s : Stock). AreHeights s c.into_heights.result.items) c.loop-command.invariant.stock c.into_heights.ensures.fits
