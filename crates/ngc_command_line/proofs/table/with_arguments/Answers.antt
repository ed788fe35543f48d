use Rattle.std.proofs.Common.{get_or}
use Rattle.clap.specs.Words.{with_rule}
use Rattle.ngc_command_line.specs.Rows.{rule_for}
use Rattle.ngc_command_line.proofs.BuildingSteps.{adds_row, folds_more}
use Rattle.ngc_command_line.proofs.table.with_arguments.Goals as goal

pub loop-argument-preserved : goal.loop-argument-preserved
loop-argument-preserved c =
    let row = get_or c.args.arguments.now c.loop-argument.argument-index _ in
    folds_more with_rule rule_for _ c.args.arguments.now c.loop-argument.argument-index _ _ c.loop-argument-test.true
    (adds_row _ _ c.build_argument.result _ row c.loop-argument.invariant c.build_argument.ensures c.in_ok-command.ensures)
