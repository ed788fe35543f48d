use Rattle.std.proofs.Common.{◌+◌, Bool, drop, ap, sym, ◌∙◌}
use Rattle.ngc_commands.specs.declared.reached.Reached.{Reached}
use Rattle.ngc_word_warnings.specs.Slips.{stale_feed, stale_tool}
use Rattle.ngc_word_warnings.proofs.StaleSteps.{next_feed}
use Rattle.ngc_word_warnings.proofs.slips.stale_feed.Goals as goal

pub loop-command-preserved : goal.loop-command-preserved
loop-command-preserved c =
    let tools = c.args.tools.now in
    let number = c.args.number.now in
    let cs = c.args.commands.now in
    let i = c.loop-command.command-index in
    let before = c.loop-command.before in
    ap (λ (r : Reached). stale_feed tools number r (drop (i + 1) cs)) c.after-before.ensures
    ∙ next_feed tools number before cs i c.command-item.result c.stale_tool-slip.result c.loop-command-test.true c.command-item.is
    (c.stale_tool-slip.ensures ∙ ap (λ (f : Bool). stale_tool tools number before.tool f) c.feeds.ensures)
    (sym c.is_some.ensures ∙ c.if-is_some.false) ∙ c.loop-command.invariant
