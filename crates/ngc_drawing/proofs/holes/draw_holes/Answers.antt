use Rattle.std.proofs.Common.{◌+◌, List, drop, rules, subst, sym}
use Rattle.std.proofs.lemmas.List.{at_drop_all}
use Rattle.ngc_picture_shapes.specs.Draws.{Draws}
use Rattle.ngc_drawing.specs.Holes.{drilled, ended, holes, holes_from}
use Rattle.ngc_picture_shapes.specs.declared.shape.Shape.{Shape}
use Rattle.ngc_picture_shapes.proofs.ShapeProgress.{went, stopped, last}
use Rattle.ngc_drawing.proofs.BoxSteps.{next_drilled}
use Rattle.ngc_drawing.proofs.holes.draw_holes.Goals as goal

pub returns-in-Err-clause-drawn : goal.returns-in-Err-clause-drawn
returns-in-Err-clause-drawn g c =
    let cs = c.args.commands.now in
    let i = c.loop-command.command-index in
    let d = c.loop-command.drilling in
    let action = c.command-item.result.action in
    stopped c.args.unit.now.micrometres (g.W.Sink.written c.args.sink.now) (g.W.Sink.written c.loop-command.sink)
    (g.W.Sink.written c.draw_all.new.sink) c.args.chunk.now c.loop-command.chunk
    (ended d action) (holes_from (drilled d action) (drop (i + 1) cs)) (holes_from d (drop i cs)) (holes c.args.view cs)
    (next_drilled d cs i c.command-item.result c.loop-command-test.true c.command-item.is) c.loop-command.invariant.ahead
    (rw (c.as_slice.ensures.value, c.ended-ended.ensures) at c.in-Err.ensures.drawn)

pub loop-command-preserved : goal.loop-command-preserved
loop-command-preserved g c =
    let cs = c.args.commands.now in
    let i = c.loop-command.command-index in
    let d = c.loop-command.drilling in
    let action = c.command-item.result.action in
    let drawn =
    went c.args.unit.now.micrometres (g.W.Sink.written c.args.sink.now) (g.W.Sink.written c.loop-command.sink)
    (g.W.Sink.written c.draw_all.new.sink) c.args.chunk.now c.loop-command.chunk c.draw_all.new.chunk
    (ended d action) (holes_from (drilled d action) (drop (i + 1) cs)) (holes_from d (drop i cs)) (holes c.args.view cs)
    (next_drilled d cs i c.command-item.result c.loop-command-test.true c.command-item.is) c.loop-command.invariant.ahead
    (rw (c.as_slice.ensures.value, c.ended-ended.ensures) at c.in-Ok.ensures.drawn) in
    record {
      ahead = rw c.after-drilling.ensures drawn;
      failures = search rules;
    }

pub returns-clause-drawn : goal.returns-clause-drawn
returns-clause-drawn g c =
    let cs = c.args.commands.now in
    let i = c.loop-command.command-index in
    let d = c.loop-command.drilling in
    let none = at_drop_all (holes_from d) cs i c.loop-command-test.false in
    last c.draw_all-2.result c.args.unit.now.micrometres (g.W.Sink.written c.args.sink.now) (g.W.Sink.written c.loop-command.sink)
    (g.W.Sink.written c.draw_all-2.new.sink) c.args.chunk.now c.loop-command.chunk c.draw_all-2.new.chunk
    (holes_from d (drop i cs)) (holes c.args.view cs) c.loop-command.invariant.ahead
    (subst (λ (l : List Shape). Draws c.args.unit.now.micrometres (g.W.Sink.written c.loop-command.sink)
    (g.W.Sink.written c.draw_all-2.new.sink) c.loop-command.chunk c.draw_all-2.new.chunk c.draw_all-2.result l)
    (sym none) (rw (c.as_slice-2.ensures.value, c.hole-last.ensures) at c.draw_all-2.ensures.drawn))
