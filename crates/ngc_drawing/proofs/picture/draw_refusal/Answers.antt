use Rattle.std.proofs.Common.{◌++◌, drop, refl}
use Rattle.ngc_machine_files.specs.Machine.{file_of}
use Rattle.ngc_picture_shapes.proofs.ShapeProgress.{both, cut_short}
use Rattle.ngc_drawing.specs.Pictures.{refused_fixture, first_outline, first_refused}
use Rattle.ngc_picture_shapes.specs.Tools.{eye_of}
use Rattle.ngc_drawing.proofs.picture.draw_refusal.Goals as goal

pub returns-in-Err-clause-drawn : goal.returns-in-Err-clause-drawn
returns-in-Err-clause-drawn g c =
    let rest = drop c.args.refusal.now.command c.args.commands.now in
    let first = refused_fixture c.args.view (file_of c.args.machine.now).fixtures c.args.refusal.now.fixture
    ++ first_outline c.args.view (file_of c.args.machine.now).step c.args.tool.now rest in
    let motion = first_refused (eye_of c.args.view c.args.tool.now) c.args.refusal.now.fault rest in
    cut_short c.args.unit.now.micrometres (g.W.Sink.written c.args.sink.now) (g.W.Sink.written c.draw_all.new.sink) c.args.chunk.now first motion
    (first ++ motion) refl
    (rw (c.as_slice-2.ensures.value, c.add_outline_at.ensures, c.refused_fixture-first.ensures.value, c.as_slice.ensures.value) at c.in-Err.ensures.drawn)

pub returns-clause-drawn : goal.returns-clause-drawn
returns-clause-drawn g c =
    let rest = drop c.args.refusal.now.command c.args.commands.now in
    let first = refused_fixture c.args.view (file_of c.args.machine.now).fixtures c.args.refusal.now.fixture
    ++ first_outline c.args.view (file_of c.args.machine.now).step c.args.tool.now rest in
    let motion = first_refused (eye_of c.args.view c.args.tool.now) c.args.refusal.now.fault rest in
    both c.draw_refused_motion.result c.args.unit.now.micrometres (g.W.Sink.written c.args.sink.now) (g.W.Sink.written c.draw_all.new.sink)
    (g.W.Sink.written c.draw_refused_motion.new.sink) c.args.chunk.now c.draw_all.new.chunk c.draw_refused_motion.new.chunk
    first motion (first ++ motion) refl
    (rw (c.as_slice-2.ensures.value, c.add_outline_at.ensures, c.refused_fixture-first.ensures.value, c.as_slice.ensures.value) at c.in-Ok.ensures.drawn)
    c.draw_refused_motion.ensures.drawn
