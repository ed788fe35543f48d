use Rattle.std.proofs.Common.{◌≡◌, fold, map, take}
use Rattle.clap.specs.Words.{app_of, with_rule}
use Rattle.ngc_command_line.specs.Rows.{rule_for}
use Rattle.ngc_command_line.proofs.table.with_arguments.Given as goal

abbrev pub invariant-loop-argument : goal.invariant-loop-argument
invariant-loop-argument l =
    app_of l.command ≡ fold with_rule (app_of l.initial.command) (map rule_for (take l.argument-index l.arguments))
