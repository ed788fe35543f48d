-- The fixtures so far fit, so that the answer is that for the others.
use Rattle.std.proofs.Common.{◌≡◌, map, drop}
use Rattle.std.specs.List.{list_all}
use Rattle.ngc_margins.specs.Margins as spec
use Rattle.ngc_margins.proofs.growth.all_fit.Given as goal

abbrev pub invariant-loop-fixture : goal.invariant-loop-fixture
invariant-loop-fixture l = list_all spec.fits (map (spec.grown l.margin) l.fixtures) ≡ list_all spec.fits (map (spec.grown l.margin) (drop l.fixture-index l.fixtures))
