use Rattle.std.proofs.Common.{◌≡◌, length, take, map}
use Rattle.ngc_written_machines.specs.Contents.{origin}
use Rattle.ngc_written_machines.proofs.contents.origins.Given as goal

abbrev pub invariant-loop-i : goal.invariant-loop-i
invariant-loop-i l = (length l.origins ≡ 9) × (take l.i l.origins ≡ map origin (take l.i l.places))
