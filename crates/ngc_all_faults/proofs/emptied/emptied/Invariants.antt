use Rattle.std.proofs.Common.{◌≡◌, ◌++◌, drop}
use Rattle.ngc_all_faults.specs.Emptied.{emptied}
use Rattle.ngc_all_faults.proofs.emptied.emptied.Given as goal

abbrev pub invariant-loop-byte : goal.invariant-loop-byte
invariant-loop-byte g l = l.rest.items ++ emptied l.left (drop l.byte-index l.text) ≡ emptied l.line l.text
