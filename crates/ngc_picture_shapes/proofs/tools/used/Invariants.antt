use Rattle.std.proofs.Common.{◌≡◌, drop, [], None}
use Rattle.ngc_picture_shapes.specs.Tools.{used_from}
use Rattle.ngc_picture_shapes.proofs.tools.used.Given as goal

abbrev pub invariant-loop-command : goal.invariant-loop-command
invariant-loop-command g l = used_from l.tools.items l.tool (drop l.command-index l.commands) ≡ used_from [] None l.commands
