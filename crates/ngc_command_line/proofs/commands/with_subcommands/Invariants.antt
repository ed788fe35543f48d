use Rattle.std.proofs.Common.{◌≡◌, fold, map, take}
use Rattle.clap.specs.Words.{app_of, with_subcommand}
use Rattle.ngc_command_line.specs.Rows.{shape_named}
use Rattle.ngc_command_line.proofs.commands.with_subcommands.Given as goal

abbrev pub invariant-loop-subcommand : goal.invariant-loop-subcommand
invariant-loop-subcommand l =
    app_of l.command ≡ fold with_subcommand (app_of l.initial.command) (map shape_named (take l.subcommand-index l.subcommands))
