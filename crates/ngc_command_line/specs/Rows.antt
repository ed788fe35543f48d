-- The commands of the table's rows, as `clap` reads a command.
use Rattle.std.specs.Prelude.{Some, None, codes, fold, map, if◌then◌else◌}
use Rattle.clap.specs.Words.{App, Rule, Shape, new_app, new_rule, with_rule}
use Rattle.clap.specs.declared.builder.action.ArgAction.TheVariants.{Set, Append, SetTrue}
use Rattle.clap.specs.declared.builder.value_parser.ValueParser.TheVariants.{Unsigned}
use Rattle.ngc_command_line.specs.CommandLine.{certify_app, check_app, draw_app, explain_app}
use Rattle.ngc_command_line.specs.CommandLine.{adapt_app, help_app, list_app, live_app, machine_app}
use Rattle.ngc_command_line.specs.CommandLine.{place_app, pulses_app, report_app, run_app, show_app}
use Rattle.ngc_command_line.specs.declared.commands.Subcommand.{Subcommand}
use Rattle.ngc_command_line.specs.declared.commands.Subcommand.TheVariants as named
use Rattle.ngc_command_line.specs.declared.table.Argument.{Argument}
use Rattle.ngc_command_line.specs.declared.table.SubcommandRow.{SubcommandRow}
use Rattle.ngc_command_line.specs.declared.table.Takes.{Takes}
use Rattle.ngc_command_line.specs.declared.table.Takes.TheVariants.{Nothing, Text, Texts, Number}

-- an argument that takes nothing is a flag
abbrev pub taking : Takes → Rule → Rule
taking Nothing rule = record rule { action = Some SetTrue }
taking (Text value) rule = record rule { value_names = 1; action = Some Set }
taking (Texts value) rule = record rule { value_names = 1; action = Some Append }
taking (Number value least most) rule =
    record rule { value_names = 1; action = Some Set; parser = Some (Unsigned least most) }

abbrev pub rule_for : Argument → Rule
rule_for argument = taking argument.takes (record (new_rule argument.name.now) {
  long = if argument.is_named then Some argument.name.now else None;
  required = argument.is_required;
})

abbrev pub app_for : SubcommandRow → App
app_for row = fold with_rule (new_app row.name.now) (map rule_for row.arguments.now)

abbrev pub app_named : Subcommand → App
app_named named.List = list_app
app_named named.Certify = certify_app
app_named named.Check = check_app
app_named named.Run = run_app
app_named named.Pulses = pulses_app
app_named named.Live = live_app
app_named named.Draw = draw_app
app_named named.Show = show_app
app_named named.Report = report_app
app_named named.Place = place_app
app_named named.Adapt = adapt_app
app_named named.Machine = machine_app
app_named named.Explain = explain_app
app_named named.Help = help_app
app_named named.Version = new_app (codes "version")

abbrev pub shape_named : Subcommand → Shape
shape_named subcommand = (app_named subcommand).top
