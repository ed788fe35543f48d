use Rattle.std.proofs.Common.{◌≡◌, ◌≤◌, drop, unsigned_abs}
use Rattle.ngc_setup_sheet.specs.Reaches.{widest}
use Rattle.ngc_setup_sheet.proofs.reach.widest.Given as goal

abbrev pub invariant-loop-part : goal.invariant-loop-part
invariant-loop-part l = record {
  bound : unsigned_abs l.most ≤ 1000000000000;
  same : widest l.most (drop l.part-index l.part-items) ≡ widest l.radius l.parts;
}
