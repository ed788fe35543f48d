use Rattle.std.proofs.Common.{◌∙◌, ◌++◌, List, ap, arith, None, replicate}
use Rattle.circular_buffer.specs.Buffer.{keep_last}
use Rattle.ngc_events.specs.declared.reply.Reply.{Reply}
use Rattle.ngc_events.specs.declared.reply.Reply.TheVariants.{Ticked}
use Rattle.ngc_controller.specs.Controller.{KEPT}
use Rattle.ngc_controller.proofs.RecentLaws.{rests}
use Rattle.ngc_controller.proofs.recent.Recent.rest.Goals as goal

pub returns : goal.returns
returns g c =
    rests c.self.inside.told.items c.self.inside.quiet c.args.count c.min-self-inside.result
    (omega (arith, c.min-self-inside.ensures, c.saturating_add.ensures))
    ∙ ap (λ (xs : List Reply). keep_last KEPT (xs ++ replicate c.args.count (Ticked None None))) c.self.view_is
