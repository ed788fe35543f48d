use Rattle.std.proofs.Common.{◌∙◌, ap, fold}
use Rattle.std.proofs.lemmas.Result.{IfOk-weaker}
use Rattle.clap.specs.Words.{App, with_subcommand}
use Rattle.ngc_command_line.specs.CommandLine.{certifying_shapes, guide_shapes, running_shapes}
use Rattle.std.proofs.Common.{◌++◌}
use Rattle.ngc_command_line.proofs.commands.ngc_command.Goals as goal

pub returns : goal.returns
returns c =
    let bare = ap (λ (a : App). fold with_subcommand a (certifying_shapes ++ running_shapes ++ guide_shapes)) c.in_ok-without_subcommands.ensures in
    IfOk-weaker c.with_subcommands.result _ _ (λ _ adds. adds ∙ bare) c.with_subcommands.ensures
