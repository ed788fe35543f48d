use Rattle.std.proofs.Common.{◌∙◌, ◌++◌, ◌∷◌, [], List, ap}
use Rattle.circular_buffer.specs.Buffer.{keep_last}
use Rattle.ngc_events.specs.declared.reply.Reply.{Reply}
use Rattle.ngc_controller.specs.Controller.{KEPT}
use Rattle.ngc_controller.proofs.RecentLaws.{tells}
use Rattle.ngc_controller.proofs.recent.Recent.tell.Goals as goal

pub returns : goal.returns
returns g c =
    let inside = c.self.inside in
    let items = ap (λ b. b.items) c.push_back.ensures.items
    ∙ ap (λ n. keep_last n (inside.told.items ++ record { before = inside.quiet; reply = c.args.reply } ∷ [])) c.self.invariant.0 in
    tells inside.told.items c.push_back.new.self.items (record { before = inside.quiet; reply = c.args.reply }) items
    ∙ ap (λ (xs : List Reply). keep_last KEPT (xs ++ c.args.reply ∷ [])) c.self.view_is
