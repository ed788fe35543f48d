use Rattle.std.proofs.Common.{◌+◌, drop, rules, subst, sym}
use Rattle.std.proofs.lemmas.List.Elements.{All-get_or}
use Rattle.ngc_machine_files.specs.Ranges.{IsFixture}
use Rattle.ngc_drawing.specs.Labels.{lines_at}
use Rattle.ngc_drawing.specs.Pictures.{fixture, fixtures_from}
use Rattle.ngc_picture_shapes.proofs.ShapeProgress.{went, stopped}
use Rattle.ngc_drawing.proofs.BoxSteps.{next_fixture}
use Rattle.ngc_drawing.proofs.picture.draw_fixtures.Goals as goal

pub returns-in-Err-clause-drawn : goal.returns-in-Err-clause-drawn
returns-in-Err-clause-drawn g c =
    let fs = c.args.fixtures.now in
    let m = c.args.margin in
    let ls = c.args.labels.now in
    let step = next_fixture c.args.view m ls fs c.loop-i.i c.index-fixtures-i.result c.loop-i-test.true c.index-fixtures-i.is in
    stopped c.args.unit.now.micrometres (g.W.Sink.written c.args.sink.now) (g.W.Sink.written c.loop-i.sink)
    (g.W.Sink.written c.draw_all.new.sink) c.args.chunk.now c.loop-i.chunk
    (fixture c.args.view m (lines_at ls c.loop-i.i) c.loop-i.i c.index-fixtures-i.result) (fixtures_from c.args.view m ls (c.loop-i.i + 1) (drop (c.loop-i.i + 1) fs))
    (fixtures_from c.args.view m ls c.loop-i.i (drop c.loop-i.i fs)) (fixtures_from c.args.view m ls 0 fs)
    step c.loop-i.invariant.ahead (rw (c.as_slice.ensures.value, c.fixture-shapes.ensures, c.lines_at.ensures) at c.in-Err.ensures.drawn)

pub loop-i-preserved : goal.loop-i-preserved
loop-i-preserved g c =
    let fs = c.args.fixtures.now in
    let m = c.args.margin in
    let ls = c.args.labels.now in
    let step = next_fixture c.args.view m ls fs c.loop-i.i c.index-fixtures-i.result c.loop-i-test.true c.index-fixtures-i.is in
    record {
      ahead =
          went c.args.unit.now.micrometres (g.W.Sink.written c.args.sink.now) (g.W.Sink.written c.loop-i.sink)
          (g.W.Sink.written c.draw_all.new.sink) c.args.chunk.now c.loop-i.chunk c.draw_all.new.chunk
          (fixture c.args.view m (lines_at ls c.loop-i.i) c.loop-i.i c.index-fixtures-i.result) (fixtures_from c.args.view m ls (c.loop-i.i + 1) (drop (c.loop-i.i + 1) fs))
          (fixtures_from c.args.view m ls c.loop-i.i (drop c.loop-i.i fs)) (fixtures_from c.args.view m ls 0 fs)
          step c.loop-i.invariant.ahead (rw (c.as_slice.ensures.value, c.fixture-shapes.ensures, c.lines_at.ensures) at c.in-Ok.ensures.drawn);
      failures = search rules;
    }

pub fixture-shapes-requires-clause-fixture : goal.fixture-shapes-requires-clause-fixture
fixture-shapes-requires-clause-fixture g c =
    subst IsFixture (sym c.index-fixtures-i.is)
    (All-get_or IsFixture c.args.fixtures.now c.loop-i.i c.index-fixtures-i.result c.loop-i-test.true c.requires.fixtures)
