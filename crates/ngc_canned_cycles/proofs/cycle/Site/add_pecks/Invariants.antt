use Rattle.std.proofs.Common.{◌≡◌, ◌≤◌, ◌+◌, ◌*◌, ◌++◌, length}
use Rattle.std.specs.List.{flat_map}
use Rattle.ngc_canned_cycles.specs.Holes.{counting, peck}
use Rattle.ngc_canned_cycles.proofs.cycle.Site.add_pecks.Given as goal

abbrev pub invariant-loop-index : goal.invariant-loop-index
invariant-loop-index g l = record {
  items : l.moves.items ≡ l.initial.moves.items ++ flat_map (peck l.self l.peck l.count) (counting 1 l.index);
  len : length l.moves.items ≤ length l.initial.moves.items + 3 * l.index;
  capacity : l.moves.capacity ≡ l.initial.moves.capacity;
}
