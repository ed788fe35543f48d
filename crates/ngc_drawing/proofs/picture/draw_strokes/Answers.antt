use Rattle.std.proofs.Common.{◌+◌, List, drop, rules, subst, sym}
use Rattle.std.proofs.lemmas.List.{at_drop_all}
use Rattle.ngc_picture_shapes.specs.Draws.{Draws}
use Rattle.ngc_picture_shapes.specs.Strokes.{strokes_of, strokes_from, strokes, after}
use Rattle.ngc_picture_shapes.specs.declared.shape.Shape.{Shape}
use Rattle.ngc_picture_shapes.proofs.ShapeProgress.{went, stopped, last}
use Rattle.ngc_drawing.proofs.BoxSteps.{next_command}
use Rattle.ngc_drawing.proofs.picture.draw_strokes.Goals as goal

pub returns-in-Err-clause-drawn : goal.returns-in-Err-clause-drawn
returns-in-Err-clause-drawn g c =
    let view = c.args.view in
    let ts = c.args.tools.now in
    let cs = c.args.commands.now in
    let i = c.loop-command.command-index in
    let pen = c.loop-command.pen in
    let action = c.command-item.result.action in
    stopped c.args.unit.now.micrometres (g.W.Sink.written c.args.sink.now) (g.W.Sink.written c.loop-command.sink)
    (g.W.Sink.written c.draw_action.new.sink) c.args.chunk.now c.loop-command.chunk
    (strokes_of pen action) (strokes_from ts (after ts pen action) (drop (i + 1) cs)) (strokes_from ts pen (drop i cs)) (strokes view ts cs)
    (next_command ts pen cs i c.command-item.result c.loop-command-test.true c.command-item.is) c.loop-command.invariant.ahead
    c.in-Err.ensures.drawn

pub loop-command-preserved : goal.loop-command-preserved
loop-command-preserved g c =
    let view = c.args.view in
    let ts = c.args.tools.now in
    let cs = c.args.commands.now in
    let i = c.loop-command.command-index in
    let pen = c.loop-command.pen in
    let action = c.command-item.result.action in
    let drawn =
    went c.args.unit.now.micrometres (g.W.Sink.written c.args.sink.now) (g.W.Sink.written c.loop-command.sink)
    (g.W.Sink.written c.draw_action.new.sink) c.args.chunk.now c.loop-command.chunk c.draw_action.new.chunk
    (strokes_of pen action) (strokes_from ts (after ts pen action) (drop (i + 1) cs)) (strokes_from ts pen (drop i cs)) (strokes view ts cs)
    (next_command ts pen cs i c.command-item.result c.loop-command-test.true c.command-item.is) c.loop-command.invariant.ahead
    c.in-Ok.ensures.drawn in
    record {
      ahead = rw c.after-pen.ensures drawn;
      failures = search rules;
    }

pub returns-clause-drawn : goal.returns-clause-drawn
returns-clause-drawn g c =
    let view = c.args.view in
    let ts = c.args.tools.now in
    let cs = c.args.commands.now in
    let i = c.loop-command.command-index in
    let pen = c.loop-command.pen in
    let none = at_drop_all (strokes_from ts pen) cs i c.loop-command-test.false in
    last c.draw_last_end.result c.args.unit.now.micrometres (g.W.Sink.written c.args.sink.now) (g.W.Sink.written c.loop-command.sink)
    (g.W.Sink.written c.draw_last_end.new.sink) c.args.chunk.now c.loop-command.chunk c.draw_last_end.new.chunk
    (strokes_from ts pen (drop i cs)) (strokes view ts cs) c.loop-command.invariant.ahead
    (subst (λ (l : List Shape). Draws c.args.unit.now.micrometres (g.W.Sink.written c.loop-command.sink)
    (g.W.Sink.written c.draw_last_end.new.sink) c.loop-command.chunk c.draw_last_end.new.chunk c.draw_last_end.result l)
    (sym none) c.draw_last_end.ensures.drawn)
