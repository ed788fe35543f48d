use Rattle.std.proofs.Common.{List, ap, ◌∙◌}
use Rattle.std.specs.Prelude.{◌||◌}
use Rattle.std.specs.List.{list_any}
use Rattle.ngc_commands.specs.declared.command.Command.{Command}
use Rattle.ngc_findings.specs.Uses.{is_traverse, is_feed, is_arc, stretch}
use Rattle.ngc_findings.proofs.CountedAtAll.{one_counted}
use Rattle.ngc_findings.proofs.uses.moves_first.Goals as goal

pub returns : goal.returns
returns c =
    c.has_motion.ensures
    ∙ ap (λ (l : List Command). list_any is_traverse l || (list_any is_feed l || list_any is_arc l)) c.stretch-before.ensures
    ∙ one_counted is_traverse is_feed is_arc (stretch c.args.commands.now)
