use Rattle.std.proofs.Common.{◌∙◌, List, ap, arith, sym}
use Rattle.ngc_events.specs.declared.reply.Reply.{Reply}
use Rattle.ngc_controller.specs.Controller.{from_the_last}
use Rattle.ngc_controller.proofs.RecentLaws.{behind_quiet, not_kept, quiet_last}
use Rattle.ngc_controller.proofs.recent.Recent.from_the_last.Goals as goal

pub returns-then-index-ge-KEPT : goal.returns-then-index-ge-KEPT
returns-then-index-ge-KEPT g c =
    sym (not_kept c.args.index c.self.inside.quiet c.self.inside.told.items (omega arith))
    ∙ ap (λ (xs : List Reply). from_the_last c.args.index xs) c.self.view_is

pub returns-then-index-quiet : goal.returns-then-index-quiet
returns-then-index-quiet g c =
    sym (quiet_last c.args.index c.self.inside.quiet c.self.inside.told.items (omega arith) (omega arith))
    ∙ ap (λ (xs : List Reply). from_the_last c.args.index xs) c.self.view_is

pub returns : goal.returns
returns g c =
    c.reported_before.ensures ∙ sym (behind_quiet c.args.index c.self.inside.quiet c.self.inside.told.items (omega arith) (omega arith))
    ∙ ap (λ (xs : List Reply). from_the_last c.args.index xs) c.self.view_is
