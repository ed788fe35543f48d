use Rattle.std.proofs.Common.{◌≡◌, ◌≤◌, ◌*◌, ◌+◌, drop, unsigned_abs}
use Rattle.ngc_setup_sheet.specs.Reaches.{top_of}
use Rattle.ngc_setup_sheet.proofs.reach.top_of.Given as goal

abbrev pub invariant-loop-part : goal.invariant-loop-part
invariant-loop-part l = record {
  bound : unsigned_abs l.top ≤ 100000000000 * (1 + l.part-index);
  same : top_of l.top (drop l.part-index l.part-items) ≡ top_of l.fn.foot l.parts;
}
