use Rattle.std.proofs.Common.{◌≡◌, drop}
use Rattle.ngc_setup_sheet.specs.Quoted.{unindented}
use Rattle.ngc_setup_sheet.proofs.quoted.unindented.Given as goal

abbrev pub invariant-loop-i : goal.invariant-loop-i
invariant-loop-i l = unindented l.line ≡ unindented (drop l.i l.line)
