use Rattle.std.proofs.Common.{sym, ◌∙◌}
use Rattle.ngc_planner.proofs.WindowLaws.{lowered_keeps}
use Rattle.ngc_planner.proofs.window.lowered.Goals as goal

pub returns-clause-value : goal.returns-clause-value
returns-clause-value c =
    lowered_keeps c.args.jump c.args.turn c.args.difference c.args.way c.loop-lowered.lowered c.requires.difference c.loop-lowered.invariant.small (sym c.may_head.ensures ∙ c.loop-lowered-test.false)
    ∙ c.loop-lowered.invariant.same
