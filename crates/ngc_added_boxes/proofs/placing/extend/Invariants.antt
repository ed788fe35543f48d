-- The fixtures so far are added, and all are in range.
use Rattle.std.proofs.Common.{◌≡◌, ◌++◌, map, take}
use Rattle.ngc_machine_files.specs.Ranges.{AreFixtures}
use Rattle.ngc_added_boxes.specs.Placing as spec
use Rattle.ngc_added_boxes.proofs.placing.extend.Given as goal

abbrev pub invariant-loop-one : goal.invariant-loop-one
invariant-loop-one g l = record {
  made : l.fixtures.items ≡ l.initial.fixtures.items ++ map (spec.in_machine l.origins) (take l.one-index l.added);
  range : AreFixtures l.fixtures.items;
}
