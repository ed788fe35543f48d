use Rattle.std.proofs.Common.{◌+◌, List, drop, get_or, rules, Some, None, subst, sym}
use Rattle.std.proofs.lemmas.List.{at_drop_all, get_or_default}
use Rattle.ngc_machine_files.specs.Machine.{file_of}
use Rattle.ngc_drawing.specs.Bodies.{swept, swept_from}
use Rattle.ngc_picture_shapes.specs.Draws.{Draws}
use Rattle.ngc_picture_shapes.specs.declared.shape.Shape.{Shape}
use Rattle.ngc_drawing.specs.declared.sweep.Sweep.{Sweep}
use Rattle.ngc_picture_shapes.proofs.ShapeProgress.{went, stopped, last}
use Rattle.ngc_drawing.proofs.Sweeps.{next_sweep, no_sweep}
use Rattle.ngc_drawing.proofs.bodies.draw_swept.Goals as goal

pub returns-in-Err-clause-drawn : goal.returns-in-Err-clause-drawn
returns-in-Err-clause-drawn g c =
    let view = c.args.view in
    let step = (file_of c.args.machine.now).step in
    let ts = c.args.tools.now in
    let ss = c.args.sweeps.now in
    let i = c.loop-sweep.sweep-index in
    let run = c.loop-sweep.run in
    let s : Sweep = get_or ss i no_sweep in
    let next = next_sweep view step ts run ss i s c.loop-sweep-test.true (get_or_default ss i no_sweep s c.loop-sweep-test.true) in
    stopped c.args.unit.now.micrometres (g.W.Sink.written c.args.sink.now) (g.W.Sink.written c.loop-sweep.sink)
    (g.W.Sink.written c.draw_all.new.sink) c.args.chunk.now c.loop-sweep.chunk
    (swept view step ts run s) (swept_from view step ts (Some s.rank) (drop (i + 1) ss)) (swept_from view step ts run (drop i ss))
    (swept_from view step ts None ss)
    next c.loop-sweep.invariant.ahead (rw (c.as_slice.ensures.value, c.swept-shapes.ensures) at c.in-Err.ensures.drawn)

pub loop-sweep-preserved : goal.loop-sweep-preserved
loop-sweep-preserved g c =
    let view = c.args.view in
    let step = (file_of c.args.machine.now).step in
    let ts = c.args.tools.now in
    let ss = c.args.sweeps.now in
    let i = c.loop-sweep.sweep-index in
    let run = c.loop-sweep.run in
    let s : Sweep = get_or ss i no_sweep in
    let next = next_sweep view step ts run ss i s c.loop-sweep-test.true (get_or_default ss i no_sweep s c.loop-sweep-test.true) in
    record {
      ahead =
          went c.args.unit.now.micrometres (g.W.Sink.written c.args.sink.now) (g.W.Sink.written c.loop-sweep.sink)
          (g.W.Sink.written c.draw_all.new.sink) c.args.chunk.now c.loop-sweep.chunk c.draw_all.new.chunk
          (swept view step ts run s) (swept_from view step ts (Some s.rank) (drop (i + 1) ss)) (swept_from view step ts run (drop i ss))
          (swept_from view step ts None ss)
          next c.loop-sweep.invariant.ahead (rw (c.as_slice.ensures.value, c.swept-shapes.ensures) at c.in-Ok.ensures.drawn);
      failures = search rules;
    }

pub returns-clause-drawn : goal.returns-clause-drawn
returns-clause-drawn g c =
    let view = c.args.view in
    let step = (file_of c.args.machine.now).step in
    let ts = c.args.tools.now in
    let ss = c.args.sweeps.now in
    let i = c.loop-sweep.sweep-index in
    let run = c.loop-sweep.run in
    let none = at_drop_all (swept_from view step ts run) ss i c.loop-sweep-test.false in
    last c.draw_all-2.result c.args.unit.now.micrometres (g.W.Sink.written c.args.sink.now) (g.W.Sink.written c.loop-sweep.sink)
    (g.W.Sink.written c.draw_all-2.new.sink) c.args.chunk.now c.loop-sweep.chunk c.draw_all-2.new.chunk
    (swept_from view step ts run (drop i ss)) (swept_from view step ts None ss) c.loop-sweep.invariant.ahead
    (subst (λ (l : List Shape). Draws c.args.unit.now.micrometres (g.W.Sink.written c.loop-sweep.sink)
    (g.W.Sink.written c.draw_all-2.new.sink) c.loop-sweep.chunk c.draw_all-2.new.chunk c.draw_all-2.result l) (sym none)
    (rw (c.as_slice-2.ensures.value, c.bodies_end-end.ensures) at c.draw_all-2.ensures.drawn))
