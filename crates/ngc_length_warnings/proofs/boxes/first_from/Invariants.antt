-- No fixture so far counts from the system.
use Rattle.std.proofs.Common.{◌≡◌, drop}
use Rattle.ngc_length_warnings.specs.Boxes.{first_from}
use Rattle.ngc_length_warnings.proofs.boxes.first_from.Given as goal

abbrev pub invariant-loop-number : goal.invariant-loop-number
invariant-loop-number l =
    first_from l.system l.number (drop l.number l.fixtures) ≡ first_from l.system 0 l.fixtures
