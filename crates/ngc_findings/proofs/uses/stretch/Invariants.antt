use Rattle.std.proofs.Common.{◌≡◌, ◌++◌, take, drop}
use Rattle.ngc_findings.specs.Uses.{stretch}
use Rattle.ngc_findings.proofs.uses.stretch.Given as goal

abbrev pub invariant-loop-i : goal.invariant-loop-i
invariant-loop-i l = stretch l.commands ≡ take l.i l.commands ++ stretch (drop l.i l.commands)
