-- The fixtures so far are larger, and the others are as they were.
use Rattle.std.proofs.Common.{◌≡◌, ◌++◌, map, drop, take, length}
use Rattle.std.specs.List.{All}
use Rattle.ngc_machine_files.specs.Ranges.{IsFixture}
use Rattle.ngc_margins.specs.Margins as spec
use Rattle.ngc_margins.proofs.growth.grow.Given as goal

abbrev pub invariant-loop-i : goal.invariant-loop-i
invariant-loop-i g l = record {
  made : l.fixtures.items ≡ map (spec.grown l.margin) (take l.i l.initial.fixtures.items) ++ drop l.i l.initial.fixtures.items;
  as_long : length l.fixtures.items ≡ length l.initial.fixtures.items;
  left : All IsFixture (drop l.i l.fixtures.items);
}
