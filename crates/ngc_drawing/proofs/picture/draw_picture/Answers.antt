use Rattle.std.proofs.Common.{List, [], ◌∷◌, ◌++◌, refl}
use Rattle.ngc_drawing.specs.Pictures.{ground, path, marked, refused, scaled, tool_rows, refusal_row}
use Rattle.ngc_picture_shapes.specs.Sheets.{unit_of}
use Rattle.ngc_machine_files.specs.Machine.{file_of}
use Rattle.ngc_picture_shapes.specs.declared.shape.Shape.{Shape}
use Rattle.ngc_picture_shapes.specs.declared.shape.Shape.TheVariants as shapes
use Rattle.ngc_picture_shapes.proofs.ShapeProgress.{Ahead, begun, went, stopped, last}
use Rattle.ngc_drawing.proofs.picture.draw_picture.Goals as goal

pub returns-in-Err-clause-drawn : goal.returns-in-Err-clause-drawn
returns-in-Err-clause-drawn g c =
    let unit = unit_of c.args.area.now in
    let part0 : List Shape = ground c.args.view (file_of c.args.machine.now) c.args.area.now c.args.tools.now c.args.swept.now c.args.labels.now in
    let part1 : List Shape = path c.args.view c.args.tools.now c.args.commands.now in
    let part2 : List Shape = marked c.args.view (file_of c.args.machine.now) c.args.area.now c.args.labels.now c.args.work.now in
    let part3 : List Shape = refused c.args.view (file_of c.args.machine.now) c.args.commands.now c.args.refusal.now in
    let part4 : List Shape = scaled c.args.view c.args.area.now ++ (tool_rows 0 c.args.tools.now ++ (refusal_row c.args.refusal.now ++ shapes.End ∷ [])) in
    let left4 : List Shape = part4 in
    let left3 : List Shape = part3 ++ left4 in
    let left2 : List Shape = part2 ++ left3 in
    let left1 : List Shape = part1 ++ left2 in
    let left0 : List Shape = part0 ++ left1 in
    let ahead0 : Ahead unit (g.W.Sink.written c.args.sink.now) (g.W.Sink.written c.args.sink.now) c.args.chunk.now c.args.chunk.now left0 left0 =
    begun unit (g.W.Sink.written c.args.sink.now) c.args.chunk.now left0 in
    stopped unit (g.W.Sink.written c.args.sink.now) (g.W.Sink.written c.args.sink.now)
    (g.W.Sink.written c.draw_ground.new.sink) c.args.chunk.now c.args.chunk.now part0 left1 left0 left0 refl ahead0 c.in-Err.ensures.drawn

pub returns-in-Err-draw_path-clause-drawn : goal.returns-in-Err-draw_path-clause-drawn
returns-in-Err-draw_path-clause-drawn g c =
    let unit = unit_of c.args.area.now in
    let part0 : List Shape = ground c.args.view (file_of c.args.machine.now) c.args.area.now c.args.tools.now c.args.swept.now c.args.labels.now in
    let part1 : List Shape = path c.args.view c.args.tools.now c.args.commands.now in
    let part2 : List Shape = marked c.args.view (file_of c.args.machine.now) c.args.area.now c.args.labels.now c.args.work.now in
    let part3 : List Shape = refused c.args.view (file_of c.args.machine.now) c.args.commands.now c.args.refusal.now in
    let part4 : List Shape = scaled c.args.view c.args.area.now ++ (tool_rows 0 c.args.tools.now ++ (refusal_row c.args.refusal.now ++ shapes.End ∷ [])) in
    let left4 : List Shape = part4 in
    let left3 : List Shape = part3 ++ left4 in
    let left2 : List Shape = part2 ++ left3 in
    let left1 : List Shape = part1 ++ left2 in
    let left0 : List Shape = part0 ++ left1 in
    let ahead0 : Ahead unit (g.W.Sink.written c.args.sink.now) (g.W.Sink.written c.args.sink.now) c.args.chunk.now c.args.chunk.now left0 left0 =
    begun unit (g.W.Sink.written c.args.sink.now) c.args.chunk.now left0 in
    let ahead1 : Ahead unit (g.W.Sink.written c.args.sink.now) (g.W.Sink.written c.draw_ground.new.sink) c.args.chunk.now c.draw_ground.new.chunk left1 left0 =
    went unit (g.W.Sink.written c.args.sink.now) (g.W.Sink.written c.args.sink.now)
    (g.W.Sink.written c.draw_ground.new.sink) c.args.chunk.now c.args.chunk.now c.draw_ground.new.chunk part0 left1 left0 left0 refl ahead0
    c.in-Ok.ensures.drawn in
    stopped unit (g.W.Sink.written c.args.sink.now) (g.W.Sink.written c.draw_ground.new.sink)
    (g.W.Sink.written c.draw_path.new.sink) c.args.chunk.now c.draw_ground.new.chunk part1 left2 left1 left0 refl ahead1
    (rw (c.unit_of-unit.ensures) at c.in-Err-draw_path.ensures.drawn)

pub returns-in-Err-draw_marks-clause-drawn : goal.returns-in-Err-draw_marks-clause-drawn
returns-in-Err-draw_marks-clause-drawn g c =
    let unit = unit_of c.args.area.now in
    let part0 : List Shape = ground c.args.view (file_of c.args.machine.now) c.args.area.now c.args.tools.now c.args.swept.now c.args.labels.now in
    let part1 : List Shape = path c.args.view c.args.tools.now c.args.commands.now in
    let part2 : List Shape = marked c.args.view (file_of c.args.machine.now) c.args.area.now c.args.labels.now c.args.work.now in
    let part3 : List Shape = refused c.args.view (file_of c.args.machine.now) c.args.commands.now c.args.refusal.now in
    let part4 : List Shape = scaled c.args.view c.args.area.now ++ (tool_rows 0 c.args.tools.now ++ (refusal_row c.args.refusal.now ++ shapes.End ∷ [])) in
    let left4 : List Shape = part4 in
    let left3 : List Shape = part3 ++ left4 in
    let left2 : List Shape = part2 ++ left3 in
    let left1 : List Shape = part1 ++ left2 in
    let left0 : List Shape = part0 ++ left1 in
    let ahead0 : Ahead unit (g.W.Sink.written c.args.sink.now) (g.W.Sink.written c.args.sink.now) c.args.chunk.now c.args.chunk.now left0 left0 =
    begun unit (g.W.Sink.written c.args.sink.now) c.args.chunk.now left0 in
    let ahead1 : Ahead unit (g.W.Sink.written c.args.sink.now) (g.W.Sink.written c.draw_ground.new.sink) c.args.chunk.now c.draw_ground.new.chunk left1 left0 =
    went unit (g.W.Sink.written c.args.sink.now) (g.W.Sink.written c.args.sink.now)
    (g.W.Sink.written c.draw_ground.new.sink) c.args.chunk.now c.args.chunk.now c.draw_ground.new.chunk part0 left1 left0 left0 refl ahead0
    c.in-Ok.ensures.drawn in
    let ahead2 : Ahead unit (g.W.Sink.written c.args.sink.now) (g.W.Sink.written c.draw_path.new.sink) c.args.chunk.now c.draw_path.new.chunk
    left2 left0 =
    went unit (g.W.Sink.written c.args.sink.now) (g.W.Sink.written c.draw_ground.new.sink)
    (g.W.Sink.written c.draw_path.new.sink) c.args.chunk.now c.draw_ground.new.chunk c.draw_path.new.chunk part1 left2 left1 left0 refl ahead1
    (rw (c.unit_of-unit.ensures) at c.in-Ok-draw_path.ensures.drawn) in
    stopped unit (g.W.Sink.written c.args.sink.now) (g.W.Sink.written c.draw_path.new.sink)
    (g.W.Sink.written c.draw_marks.new.sink) c.args.chunk.now c.draw_path.new.chunk part2 left3 left2 left0 refl ahead2
    (rw (c.unit_of-unit.ensures) at c.in-Err-draw_marks.ensures.drawn)

pub returns-in-Err-draw_refused-clause-drawn : goal.returns-in-Err-draw_refused-clause-drawn
returns-in-Err-draw_refused-clause-drawn g c =
    let unit = unit_of c.args.area.now in
    let part0 : List Shape = ground c.args.view (file_of c.args.machine.now) c.args.area.now c.args.tools.now c.args.swept.now c.args.labels.now in
    let part1 : List Shape = path c.args.view c.args.tools.now c.args.commands.now in
    let part2 : List Shape = marked c.args.view (file_of c.args.machine.now) c.args.area.now c.args.labels.now c.args.work.now in
    let part3 : List Shape = refused c.args.view (file_of c.args.machine.now) c.args.commands.now c.args.refusal.now in
    let part4 : List Shape = scaled c.args.view c.args.area.now ++ (tool_rows 0 c.args.tools.now ++ (refusal_row c.args.refusal.now ++ shapes.End ∷ [])) in
    let left4 : List Shape = part4 in
    let left3 : List Shape = part3 ++ left4 in
    let left2 : List Shape = part2 ++ left3 in
    let left1 : List Shape = part1 ++ left2 in
    let left0 : List Shape = part0 ++ left1 in
    let ahead0 : Ahead unit (g.W.Sink.written c.args.sink.now) (g.W.Sink.written c.args.sink.now) c.args.chunk.now c.args.chunk.now left0 left0 =
    begun unit (g.W.Sink.written c.args.sink.now) c.args.chunk.now left0 in
    let ahead1 : Ahead unit (g.W.Sink.written c.args.sink.now) (g.W.Sink.written c.draw_ground.new.sink) c.args.chunk.now c.draw_ground.new.chunk left1 left0 =
    went unit (g.W.Sink.written c.args.sink.now) (g.W.Sink.written c.args.sink.now)
    (g.W.Sink.written c.draw_ground.new.sink) c.args.chunk.now c.args.chunk.now c.draw_ground.new.chunk part0 left1 left0 left0 refl ahead0
    c.in-Ok.ensures.drawn in
    let ahead2 : Ahead unit (g.W.Sink.written c.args.sink.now) (g.W.Sink.written c.draw_path.new.sink) c.args.chunk.now c.draw_path.new.chunk
    left2 left0 =
    went unit (g.W.Sink.written c.args.sink.now) (g.W.Sink.written c.draw_ground.new.sink)
    (g.W.Sink.written c.draw_path.new.sink) c.args.chunk.now c.draw_ground.new.chunk c.draw_path.new.chunk part1 left2 left1 left0 refl ahead1
    (rw (c.unit_of-unit.ensures) at c.in-Ok-draw_path.ensures.drawn) in
    let ahead3 : Ahead unit (g.W.Sink.written c.args.sink.now) (g.W.Sink.written c.draw_marks.new.sink) c.args.chunk.now c.draw_marks.new.chunk left3 left0 =
    went unit (g.W.Sink.written c.args.sink.now) (g.W.Sink.written c.draw_path.new.sink)
    (g.W.Sink.written c.draw_marks.new.sink) c.args.chunk.now c.draw_path.new.chunk c.draw_marks.new.chunk part2 left3 left2 left0 refl ahead2
    (rw (c.unit_of-unit.ensures) at c.in-Ok-draw_marks.ensures.drawn) in
    stopped unit (g.W.Sink.written c.args.sink.now) (g.W.Sink.written c.draw_marks.new.sink)
    (g.W.Sink.written c.draw_refused.new.sink) c.args.chunk.now c.draw_marks.new.chunk part3 left4 left3 left0 refl ahead3
    (rw (c.unit_of-unit.ensures) at c.in-Err-draw_refused.ensures.drawn)

pub returns-clause-drawn : goal.returns-clause-drawn
returns-clause-drawn g c =
    let unit = unit_of c.args.area.now in
    let part0 : List Shape = ground c.args.view (file_of c.args.machine.now) c.args.area.now c.args.tools.now c.args.swept.now c.args.labels.now in
    let part1 : List Shape = path c.args.view c.args.tools.now c.args.commands.now in
    let part2 : List Shape = marked c.args.view (file_of c.args.machine.now) c.args.area.now c.args.labels.now c.args.work.now in
    let part3 : List Shape = refused c.args.view (file_of c.args.machine.now) c.args.commands.now c.args.refusal.now in
    let part4 : List Shape = scaled c.args.view c.args.area.now ++ (tool_rows 0 c.args.tools.now ++ (refusal_row c.args.refusal.now ++ shapes.End ∷ [])) in
    let left4 : List Shape = part4 in
    let left3 : List Shape = part3 ++ left4 in
    let left2 : List Shape = part2 ++ left3 in
    let left1 : List Shape = part1 ++ left2 in
    let left0 : List Shape = part0 ++ left1 in
    let ahead0 : Ahead unit (g.W.Sink.written c.args.sink.now) (g.W.Sink.written c.args.sink.now) c.args.chunk.now c.args.chunk.now left0 left0 =
    begun unit (g.W.Sink.written c.args.sink.now) c.args.chunk.now left0 in
    let ahead1 : Ahead unit (g.W.Sink.written c.args.sink.now) (g.W.Sink.written c.draw_ground.new.sink) c.args.chunk.now c.draw_ground.new.chunk left1 left0 =
    went unit (g.W.Sink.written c.args.sink.now) (g.W.Sink.written c.args.sink.now)
    (g.W.Sink.written c.draw_ground.new.sink) c.args.chunk.now c.args.chunk.now c.draw_ground.new.chunk part0 left1 left0 left0 refl ahead0
    c.in-Ok.ensures.drawn in
    let ahead2 : Ahead unit (g.W.Sink.written c.args.sink.now) (g.W.Sink.written c.draw_path.new.sink) c.args.chunk.now c.draw_path.new.chunk
    left2 left0 =
    went unit (g.W.Sink.written c.args.sink.now) (g.W.Sink.written c.draw_ground.new.sink)
    (g.W.Sink.written c.draw_path.new.sink) c.args.chunk.now c.draw_ground.new.chunk c.draw_path.new.chunk part1 left2 left1 left0 refl ahead1
    (rw (c.unit_of-unit.ensures) at c.in-Ok-draw_path.ensures.drawn) in
    let ahead3 : Ahead unit (g.W.Sink.written c.args.sink.now) (g.W.Sink.written c.draw_marks.new.sink) c.args.chunk.now c.draw_marks.new.chunk left3 left0 =
    went unit (g.W.Sink.written c.args.sink.now) (g.W.Sink.written c.draw_path.new.sink)
    (g.W.Sink.written c.draw_marks.new.sink) c.args.chunk.now c.draw_path.new.chunk c.draw_marks.new.chunk part2 left3 left2 left0 refl ahead2
    (rw (c.unit_of-unit.ensures) at c.in-Ok-draw_marks.ensures.drawn) in
    let ahead4 : Ahead unit (g.W.Sink.written c.args.sink.now) (g.W.Sink.written c.draw_refused.new.sink) c.args.chunk.now c.draw_refused.new.chunk
    left4 left0 =
    went unit (g.W.Sink.written c.args.sink.now) (g.W.Sink.written c.draw_marks.new.sink)
    (g.W.Sink.written c.draw_refused.new.sink) c.args.chunk.now c.draw_marks.new.chunk c.draw_refused.new.chunk part3 left4 left3 left0 refl ahead3
    (rw (c.unit_of-unit.ensures) at c.in-Ok-draw_refused.ensures.drawn) in
    last c.draw_legend.result unit (g.W.Sink.written c.args.sink.now) (g.W.Sink.written c.draw_refused.new.sink)
    (g.W.Sink.written c.draw_legend.new.sink) c.args.chunk.now c.draw_refused.new.chunk c.draw_legend.new.chunk left4 left0 ahead4
    c.draw_legend.ensures.drawn
