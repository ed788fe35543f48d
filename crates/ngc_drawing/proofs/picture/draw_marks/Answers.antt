use Rattle.std.proofs.Common.{◌++◌, refl}
use Rattle.ngc_machine_files.specs.Machine.{file_of}
use Rattle.ngc_picture_shapes.proofs.ShapeProgress.{both, cut_short}
use Rattle.ngc_drawing.specs.Pictures.{places, origin}
use Rattle.ngc_drawing.proofs.picture.draw_marks.Goals as goal

pub returns-in-Err-clause-drawn : goal.returns-in-Err-clause-drawn
returns-in-Err-clause-drawn g c =
    let first = places c.args.view (file_of c.args.machine.now) c.args.area.now c.args.labels.now in
    let work = origin c.args.view c.args.area.now c.args.labels.now c.args.work.now in
    cut_short c.args.unit.now.micrometres (g.W.Sink.written c.args.sink.now) (g.W.Sink.written c.draw_all.new.sink) c.args.chunk.now first work
    (first ++ work) refl (rw (c.as_slice.ensures.value, c.places-shapes.ensures) at c.in-Err.ensures.drawn)

pub returns-clause-drawn : goal.returns-clause-drawn
returns-clause-drawn g c =
    let first = places c.args.view (file_of c.args.machine.now) c.args.area.now c.args.labels.now in
    let work = origin c.args.view c.args.area.now c.args.labels.now c.args.work.now in
    both c.draw_all-2.result c.args.unit.now.micrometres (g.W.Sink.written c.args.sink.now) (g.W.Sink.written c.draw_all.new.sink)
    (g.W.Sink.written c.draw_all-2.new.sink) c.args.chunk.now c.draw_all.new.chunk c.draw_all-2.new.chunk
    first work (first ++ work) refl (rw (c.as_slice.ensures.value, c.places-shapes.ensures) at c.in-Ok.ensures.drawn)
    (rw (c.as_slice-2.ensures.value, c.origin-last.ensures) at c.draw_all-2.ensures.drawn)
