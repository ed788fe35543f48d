use Rattle.std.proofs.Common.{List, ◌++◌, refl}
use Rattle.ngc_drawing.specs.Bodies.{swept_from}
use Rattle.ngc_drawing.specs.Pictures.{opening, fixtures_from}
use Rattle.ngc_picture_shapes.specs.Sheets.{unit_of}
use Rattle.ngc_machine_files.specs.Machine.{file_of}
use Rattle.std.proofs.Common.{None, drop, subst, sym}
use Rattle.std.specs.List.{All}
use Rattle.ngc_machine_files.specs.Ranges.{IsFixture}
use Rattle.ngc_picture_shapes.specs.declared.shape.Shape.{Shape}
use Rattle.ngc_picture_shapes.proofs.ShapeProgress.{Ahead, begun, went, stopped, last}
use Rattle.ngc_drawing.proofs.picture.draw_ground.Goals as goal

pub returns-in-Err-clause-drawn : goal.returns-in-Err-clause-drawn
returns-in-Err-clause-drawn g c =
    let unit = unit_of c.args.area.now in
    let part0 : List Shape = opening c.args.view (file_of c.args.machine.now) c.args.area.now c.args.tools.now in
    let part1 : List Shape = fixtures_from c.args.view (file_of c.args.machine.now).margins.fixtures (drop 4 c.args.labels.now) 0 (file_of c.args.machine.now).fixtures in
    let part2 : List Shape = swept_from c.args.view (file_of c.args.machine.now).step c.args.tools.now None c.args.swept.now in
    let left2 : List Shape = part2 in
    let left1 : List Shape = part1 ++ left2 in
    let left0 : List Shape = part0 ++ left1 in
    let ahead0 : Ahead unit (g.W.Sink.written c.args.sink.now) (g.W.Sink.written c.args.sink.now) c.args.chunk.now c.args.chunk.now left0 left0 =
    begun unit (g.W.Sink.written c.args.sink.now) c.args.chunk.now left0 in
    stopped unit (g.W.Sink.written c.args.sink.now) (g.W.Sink.written c.args.sink.now)
    (g.W.Sink.written c.draw_opening.new.sink) c.args.chunk.now c.args.chunk.now part0 left1 left0 left0 refl ahead0 c.in-Err.ensures.drawn

pub returns-in-Err-draw_fixtures-clause-drawn : goal.returns-in-Err-draw_fixtures-clause-drawn
returns-in-Err-draw_fixtures-clause-drawn g c =
    let unit = unit_of c.args.area.now in
    let part0 : List Shape = opening c.args.view (file_of c.args.machine.now) c.args.area.now c.args.tools.now in
    let part1 : List Shape = fixtures_from c.args.view (file_of c.args.machine.now).margins.fixtures (drop 4 c.args.labels.now) 0 (file_of c.args.machine.now).fixtures in
    let part2 : List Shape = swept_from c.args.view (file_of c.args.machine.now).step c.args.tools.now None c.args.swept.now in
    let left2 : List Shape = part2 in
    let left1 : List Shape = part1 ++ left2 in
    let left0 : List Shape = part0 ++ left1 in
    let ahead0 : Ahead unit (g.W.Sink.written c.args.sink.now) (g.W.Sink.written c.args.sink.now) c.args.chunk.now c.args.chunk.now left0 left0 =
    begun unit (g.W.Sink.written c.args.sink.now) c.args.chunk.now left0 in
    let ahead1 : Ahead unit (g.W.Sink.written c.args.sink.now) (g.W.Sink.written c.draw_opening.new.sink) c.args.chunk.now c.draw_opening.new.chunk
    left1 left0 =
    went unit (g.W.Sink.written c.args.sink.now) (g.W.Sink.written c.args.sink.now)
    (g.W.Sink.written c.draw_opening.new.sink) c.args.chunk.now c.args.chunk.now c.draw_opening.new.chunk part0 left1 left0 left0 refl ahead0
    c.in-Ok.ensures.drawn in
    stopped unit (g.W.Sink.written c.args.sink.now) (g.W.Sink.written c.draw_opening.new.sink)
    (g.W.Sink.written c.draw_fixtures.new.sink) c.args.chunk.now c.draw_opening.new.chunk part1 left2 left1 left0 refl ahead1
    (rw (c.unit_of-unit.ensures, c.as_slice-fixtures.ensures.value, c.after_marks-labelled.ensures) at c.in-Err-draw_fixtures.ensures.drawn)

pub returns-clause-drawn : goal.returns-clause-drawn
returns-clause-drawn g c =
    let unit = unit_of c.args.area.now in
    let part0 : List Shape = opening c.args.view (file_of c.args.machine.now) c.args.area.now c.args.tools.now in
    let part1 : List Shape = fixtures_from c.args.view (file_of c.args.machine.now).margins.fixtures (drop 4 c.args.labels.now) 0 (file_of c.args.machine.now).fixtures in
    let part2 : List Shape = swept_from c.args.view (file_of c.args.machine.now).step c.args.tools.now None c.args.swept.now in
    let left2 : List Shape = part2 in
    let left1 : List Shape = part1 ++ left2 in
    let left0 : List Shape = part0 ++ left1 in
    let ahead0 : Ahead unit (g.W.Sink.written c.args.sink.now) (g.W.Sink.written c.args.sink.now) c.args.chunk.now c.args.chunk.now left0 left0 =
    begun unit (g.W.Sink.written c.args.sink.now) c.args.chunk.now left0 in
    let ahead1 : Ahead unit (g.W.Sink.written c.args.sink.now) (g.W.Sink.written c.draw_opening.new.sink) c.args.chunk.now c.draw_opening.new.chunk
    left1 left0 =
    went unit (g.W.Sink.written c.args.sink.now) (g.W.Sink.written c.args.sink.now)
    (g.W.Sink.written c.draw_opening.new.sink) c.args.chunk.now c.args.chunk.now c.draw_opening.new.chunk part0 left1 left0 left0 refl ahead0
    c.in-Ok.ensures.drawn in
    let ahead2 : Ahead unit (g.W.Sink.written c.args.sink.now) (g.W.Sink.written c.draw_fixtures.new.sink) c.args.chunk.now c.draw_fixtures.new.chunk
    left2 left0 =
    went unit (g.W.Sink.written c.args.sink.now) (g.W.Sink.written c.draw_opening.new.sink)
    (g.W.Sink.written c.draw_fixtures.new.sink) c.args.chunk.now c.draw_opening.new.chunk c.draw_fixtures.new.chunk part1 left2 left1 left0 refl ahead1
    (rw (c.unit_of-unit.ensures, c.as_slice-fixtures.ensures.value, c.after_marks-labelled.ensures) at c.in-Ok-draw_fixtures.ensures.drawn) in
    last c.draw_swept.result unit (g.W.Sink.written c.args.sink.now) (g.W.Sink.written c.draw_fixtures.new.sink)
    (g.W.Sink.written c.draw_swept.new.sink) c.args.chunk.now c.draw_fixtures.new.chunk c.draw_swept.new.chunk left2 left0 ahead2
    (rw (c.unit_of-unit.ensures) at c.draw_swept.ensures.drawn)

pub draw_fixtures-requires-clause-fixtures : goal.draw_fixtures-requires-clause-fixtures
draw_fixtures-requires-clause-fixtures g c =
    subst (All IsFixture) (sym c.as_slice-fixtures.ensures.value) c.args.machine.now.fixtures_in_range.each

pub draw_fixtures-requires-clause-margin : goal.draw_fixtures-requires-clause-margin
draw_fixtures-requires-clause-margin g c = c.args.machine.now.margins_in_range.fixtures
