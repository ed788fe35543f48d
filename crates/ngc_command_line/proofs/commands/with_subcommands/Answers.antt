use Rattle.std.proofs.Common.{◌∙◌, get_or}
use Rattle.clap.specs.Words.{with_subcommand}
use Rattle.ngc_command_line.specs.Rows.{shape_named}
use Rattle.ngc_command_line.proofs.BuildingSteps.{adds_subcommand, folds_more, shape_is_plain}
use Rattle.ngc_command_line.proofs.commands.with_subcommands.Goals as goal

pub loop-subcommand-preserved : goal.loop-subcommand-preserved
loop-subcommand-preserved c =
    let subcommand = get_or c.args.subcommands.now c.loop-subcommand.subcommand-index _ in
    let is = c.in_ok-build_subcommand.ensures ∙ c.row_named.ensures in
    folds_more with_subcommand shape_named _ c.args.subcommands.now c.loop-subcommand.subcommand-index _ _ c.loop-subcommand-test.true
    (adds_subcommand c.loop-subcommand.invariant is (shape_is_plain subcommand) c.in_ok-command.ensures)
