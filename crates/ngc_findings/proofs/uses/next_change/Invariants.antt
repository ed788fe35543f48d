use Rattle.std.proofs.Common.{◌≡◌, drop}
use Rattle.ngc_findings.specs.Uses.{changes}
use Rattle.ngc_findings.proofs.uses.next_change.Given as goal

abbrev pub invariant-loop-i : goal.invariant-loop-i
invariant-loop-i l = changes l.commands ≡ changes (drop l.i l.commands)
