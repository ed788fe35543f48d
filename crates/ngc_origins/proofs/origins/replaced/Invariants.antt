-- The origins so far are replaced, and the others are left.
use Rattle.std.proofs.Common.{◌≡◌, ◌++◌, length, drop, take}
use Rattle.ngc_origins.specs.Placed.{replaced}
use Rattle.ngc_origins.proofs.origins.replaced.Given as goal

abbrev pub invariant-loop-i : goal.invariant-loop-i
invariant-loop-i l = record {
  text : take l.i l.places ++ replaced (drop l.i l.systems) (drop l.i l.places) ≡ replaced l.systems l.own;
  nine : length l.places ≡ 9;
}
