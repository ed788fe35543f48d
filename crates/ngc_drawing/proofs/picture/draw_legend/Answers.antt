use Rattle.std.proofs.Common.{[], ◌∷◌, ◌++◌, refl}
use Rattle.ngc_picture_shapes.proofs.ShapeProgress.{begun, went, stopped, last}
use Rattle.ngc_drawing.specs.Pictures.{scaled, tool_rows, refusal_row}
use Rattle.ngc_picture_shapes.specs.Sheets.{unit_of}
use Rattle.ngc_picture_shapes.specs.declared.shape.Shape.TheVariants as shapes
use Rattle.ngc_drawing.proofs.picture.draw_legend.Goals as goal

pub returns-in-Err-clause-drawn : goal.returns-in-Err-clause-drawn
returns-in-Err-clause-drawn g c =
    stopped (unit_of c.args.area.now) (g.W.Sink.written c.args.sink.now) (g.W.Sink.written c.args.sink.now)
    (g.W.Sink.written c.draw_scale.new.sink) c.args.chunk.now c.args.chunk.now (scaled c.args.view c.args.area.now)
    (tool_rows 0 c.args.tools.now ++ (refusal_row c.args.refusal.now ++ shapes.End ∷ []))
    (scaled c.args.view c.args.area.now ++ (tool_rows 0 c.args.tools.now ++ (refusal_row c.args.refusal.now ++ shapes.End ∷ [])))
    (scaled c.args.view c.args.area.now ++ (tool_rows 0 c.args.tools.now ++ (refusal_row c.args.refusal.now ++ shapes.End ∷ []))) refl
    (begun (unit_of c.args.area.now) (g.W.Sink.written c.args.sink.now) c.args.chunk.now
    (scaled c.args.view c.args.area.now ++ (tool_rows 0 c.args.tools.now ++ (refusal_row c.args.refusal.now ++ shapes.End ∷ [])))) c.in-Err.ensures.drawn

pub returns-in-Err-draw_tools-clause-drawn : goal.returns-in-Err-draw_tools-clause-drawn
returns-in-Err-draw_tools-clause-drawn g c =
    stopped (unit_of c.args.area.now) (g.W.Sink.written c.args.sink.now) (g.W.Sink.written c.draw_scale.new.sink)
    (g.W.Sink.written c.draw_tools.new.sink) c.args.chunk.now c.draw_scale.new.chunk (tool_rows 0 c.args.tools.now)
    (refusal_row c.args.refusal.now ++ shapes.End ∷ []) (tool_rows 0 c.args.tools.now ++ (refusal_row c.args.refusal.now ++ shapes.End ∷ []))
    (scaled c.args.view c.args.area.now ++ (tool_rows 0 c.args.tools.now ++ (refusal_row c.args.refusal.now ++ shapes.End ∷ []))) refl
    (went (unit_of c.args.area.now) (g.W.Sink.written c.args.sink.now) (g.W.Sink.written c.args.sink.now)
    (g.W.Sink.written c.draw_scale.new.sink) c.args.chunk.now c.args.chunk.now c.draw_scale.new.chunk (scaled c.args.view c.args.area.now)
    (tool_rows 0 c.args.tools.now ++ (refusal_row c.args.refusal.now ++ shapes.End ∷ []))
    (scaled c.args.view c.args.area.now ++ (tool_rows 0 c.args.tools.now ++ (refusal_row c.args.refusal.now ++ shapes.End ∷ [])))
    (scaled c.args.view c.args.area.now ++ (tool_rows 0 c.args.tools.now ++ (refusal_row c.args.refusal.now ++ shapes.End ∷ []))) refl
    (begun (unit_of c.args.area.now) (g.W.Sink.written c.args.sink.now) c.args.chunk.now
    (scaled c.args.view c.args.area.now ++ (tool_rows 0 c.args.tools.now ++ (refusal_row c.args.refusal.now ++ shapes.End ∷ [])))) c.in-Ok.ensures.drawn)
    (rw (c.unit_of-unit.ensures) at c.in-Err-draw_tools.ensures.drawn)

pub returns-clause-drawn : goal.returns-clause-drawn
returns-clause-drawn g c =
    last c.draw_all.result (unit_of c.args.area.now) (g.W.Sink.written c.args.sink.now) (g.W.Sink.written c.draw_tools.new.sink)
    (g.W.Sink.written c.draw_all.new.sink) c.args.chunk.now c.draw_tools.new.chunk c.draw_all.new.chunk (refusal_row c.args.refusal.now ++ shapes.End ∷ [])
    (scaled c.args.view c.args.area.now ++ (tool_rows 0 c.args.tools.now ++ (refusal_row c.args.refusal.now ++ shapes.End ∷ [])))
    (went (unit_of c.args.area.now) (g.W.Sink.written c.args.sink.now) (g.W.Sink.written c.draw_scale.new.sink)
    (g.W.Sink.written c.draw_tools.new.sink) c.args.chunk.now c.draw_scale.new.chunk c.draw_tools.new.chunk (tool_rows 0 c.args.tools.now)
    (refusal_row c.args.refusal.now ++ shapes.End ∷ []) (tool_rows 0 c.args.tools.now ++ (refusal_row c.args.refusal.now ++ shapes.End ∷ []))
    (scaled c.args.view c.args.area.now ++ (tool_rows 0 c.args.tools.now ++ (refusal_row c.args.refusal.now ++ shapes.End ∷ []))) refl
    (went (unit_of c.args.area.now) (g.W.Sink.written c.args.sink.now) (g.W.Sink.written c.args.sink.now)
    (g.W.Sink.written c.draw_scale.new.sink) c.args.chunk.now c.args.chunk.now c.draw_scale.new.chunk (scaled c.args.view c.args.area.now)
    (tool_rows 0 c.args.tools.now ++ (refusal_row c.args.refusal.now ++ shapes.End ∷ []))
    (scaled c.args.view c.args.area.now ++ (tool_rows 0 c.args.tools.now ++ (refusal_row c.args.refusal.now ++ shapes.End ∷ [])))
    (scaled c.args.view c.args.area.now ++ (tool_rows 0 c.args.tools.now ++ (refusal_row c.args.refusal.now ++ shapes.End ∷ []))) refl
    (begun (unit_of c.args.area.now) (g.W.Sink.written c.args.sink.now) c.args.chunk.now
    (scaled c.args.view c.args.area.now ++ (tool_rows 0 c.args.tools.now ++ (refusal_row c.args.refusal.now ++ shapes.End ∷ [])))) c.in-Ok.ensures.drawn)
    (rw (c.unit_of-unit.ensures) at c.in-Ok-draw_tools.ensures.drawn))
    (rw (c.unit_of-unit.ensures, c.as_slice.ensures.value, c.push.ensures.items, c.refusal_row-last.ensures.value) at c.draw_all.ensures.drawn)
