use Rattle.std.proofs.Common.{◌≡◌, ◌++◌, drop, map, string_bytes}
use Rattle.ngc_job_words.specs.Added.{fixture_word}
use Rattle.ngc_job_words.proofs.added.add_each_fixture.Given as goal

abbrev pub invariant-loop-fixture : goal.invariant-loop-fixture
invariant-loop-fixture l =
    map string_bytes l.initial.added.items ++ map fixture_word l.fixtures
    ≡ map string_bytes l.added.items ++ map fixture_word (drop l.fixture-index l.fixtures)
