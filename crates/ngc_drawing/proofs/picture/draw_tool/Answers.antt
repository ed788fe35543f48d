use Rattle.std.proofs.Common.{List, [], ◌∷◌, ◌++◌, refl}
use Rattle.ngc_drawing.specs.Pictures.{parts, tool_row}
use Rattle.ngc_picture_shapes.specs.Tools.{number_of, name_of}
use Rattle.ngc_picture_shapes.specs.declared.shape.Shape.{Shape}
use Rattle.ngc_picture_shapes.specs.declared.shape.Shape.TheVariants as shapes
use Rattle.ngc_picture_shapes.proofs.ShapeProgress.{begun, went, stopped, last}
use Rattle.ngc_drawing.proofs.picture.draw_tool.Goals as goal

pub returns-in-Err-clause-drawn : goal.returns-in-Err-clause-drawn
returns-in-Err-clause-drawn g c =
    let unit = c.args.unit.now.micrometres in
    let whole : List Shape = tool_row c.args.rank c.args.tool.now in
    let first : List Shape = shapes.Tool c.args.rank (number_of c.args.tool.now) ∷ shapes.Name (name_of c.args.tool.now) ∷ [] in
    let rest : List Shape = parts c.args.tool.now ++ shapes.ToolEnd ∷ [] in
    stopped unit (g.W.Sink.written c.args.sink.now) (g.W.Sink.written c.args.sink.now)
    (g.W.Sink.written c.draw_all.new.sink) c.args.chunk.now c.args.chunk.now first rest whole whole refl
    (begun unit (g.W.Sink.written c.args.sink.now) c.args.chunk.now whole) (rw (c.number_of.ensures, c.name_of.ensures) at c.in-Err.ensures.drawn)

pub returns-clause-drawn : goal.returns-clause-drawn
returns-clause-drawn g c =
    let unit = c.args.unit.now.micrometres in
    let whole : List Shape = tool_row c.args.rank c.args.tool.now in
    let first : List Shape = shapes.Tool c.args.rank (number_of c.args.tool.now) ∷ shapes.Name (name_of c.args.tool.now) ∷ [] in
    let rest : List Shape = parts c.args.tool.now ++ shapes.ToolEnd ∷ [] in
    last c.draw_all-2.result unit (g.W.Sink.written c.args.sink.now) (g.W.Sink.written c.draw_all.new.sink)
    (g.W.Sink.written c.draw_all-2.new.sink) c.args.chunk.now c.draw_all.new.chunk c.draw_all-2.new.chunk rest whole
    (went unit (g.W.Sink.written c.args.sink.now) (g.W.Sink.written c.args.sink.now)
    (g.W.Sink.written c.draw_all.new.sink) c.args.chunk.now c.args.chunk.now c.draw_all.new.chunk first rest whole whole refl
    (begun unit (g.W.Sink.written c.args.sink.now) c.args.chunk.now whole) (rw (c.number_of.ensures, c.name_of.ensures) at c.in-Ok.ensures.drawn))
    (rw (c.as_slice.ensures.value, c.push.ensures.items, c.parts-rest.ensures.value) at c.draw_all-2.ensures.drawn)
