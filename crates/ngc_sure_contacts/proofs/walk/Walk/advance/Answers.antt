use Rattle.std.proofs.Common.{sym, ◌∙◌}
use Rattle.ngc_sure_contacts.proofs.Walking.{next_before, reached_at}
use Rattle.ngc_sure_contacts.proofs.walk.Walk.advance.Goals as goal

pub follow-requires : goal.follow-requires
follow-requires g c = reached_at c.args.commands.now c.loop-self.self.position c.in-Some.command c.requires (sym c.in-Some.ensures)

pub loop-self-preserved : goal.loop-self-preserved
loop-self-preserved g c =
    let v = c.loop-self.invariant in
    let s = c.args.self.now.ground.stock in
    record {
      stock = c.in_ok-follow.ensures.stock ∙ v.stock;
      before = λ start h. next_before s start c.args.commands.now c.loop-self.self.position c.in-Some.command c.loop-self.self.ground.reached c.follow.new.self.reached
          c.loop-self.self.ground.heights.items c.follow.new.self.heights.items (rw v.stock at c.loop-self.self.ground.fits.count) c.in-Some.ensures
          c.in_ok-follow.ensures.reached (rw v.stock at c.in_ok-follow.ensures.swept) (v.before start h);
    }
