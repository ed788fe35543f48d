use Rattle.std.proofs.Common.{◌≡◌, drop, None}
use Rattle.ngc_picture_shapes.specs.Sheets.{with_commands}
use Rattle.ngc_picture_shapes.proofs.sheet.with_commands.Given as goal

abbrev pub invariant-loop-command : goal.invariant-loop-command
invariant-loop-command l = with_commands l.view l.tool l.all (drop l.command-index l.commands) ≡ with_commands l.view None l.initial.all l.commands
