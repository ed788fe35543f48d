use Rattle.std.proofs.Common.{◌≡◌, drop}
use Rattle.ngc_picture_shapes.specs.Sheets.{with_fixtures}
use Rattle.ngc_picture_shapes.proofs.sheet.with_fixtures.Given as goal

abbrev pub invariant-loop-fixture : goal.invariant-loop-fixture
invariant-loop-fixture l = with_fixtures l.view l.all (drop l.fixture-index l.fixtures) ≡ with_fixtures l.view l.initial.all l.fixtures
