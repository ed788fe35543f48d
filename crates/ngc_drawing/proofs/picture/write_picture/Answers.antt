use Rattle.std.proofs.Common.{ℕ, subst, List, Option, Result, Ok, Err}
use Rattle.std.specs.Prelude.{OnOk, OnErr}
use Rattle.std.specs.Io.KnownBytes.{Appends}
use Rattle.ngc_text.specs.Written.{AppendsPrefix}
use Rattle.ngc_text.specs.declared.writing.WriteFault.{WriteFault}
use Rattle.ngc_text.specs.Collected.{WritesPrefix}
use Rattle.ngc_certificate_text.proofs.CollectedTexts.{all_written, beginning_written}
use Rattle.ngc_drawing.proofs.WholePicture.{from_start}
use Rattle.ngc_drawing.specs.Pictures.{picture_of}
use Rattle.ngc_picture_shapes.specs.Sheets.{unit_of}
use Rattle.ngc_picture_shapes.specs.Spelling.{shapes_text}
use Rattle.ngc_machine_files.specs.Machine.{file_of}
use Rattle.ngc_drawing.proofs.picture.write_picture.Goals as goal

whole_out : (r : Result (Unit {0}) WriteFault) (old mid new : Option (List ℕ)) (text after : List ℕ) → WritesPrefix old mid text after →
    OnOk r (Appends mid new after) → OnOk r (Appends old new text)
whole_out (Ok u) old mid new text after h k = all_written old mid new text after h k
whole_out (Err e) old mid new text after h k = tt

part_out : (r : Result (Unit {0}) WriteFault) (old mid new : Option (List ℕ)) (text after : List ℕ) → WritesPrefix old mid text after →
    OnErr r (AppendsPrefix mid new after) → OnErr r (AppendsPrefix old new text)
part_out (Ok u) old mid new text after h k = tt
part_out (Err e) old mid new text after h k = beginning_written old mid new text after h k

pub returns-in-Ok-clause-ok : goal.returns-in-Ok-clause-ok
returns-in-Ok-clause-ok g c =
    whole_out c.write_out.result (g.W.Sink.written c.args.sink.now) (g.W.Sink.written c.draw_picture.new.sink) (g.W.Sink.written c.write_out.new.sink)
    (shapes_text (unit_of c.args.area.now)
    (picture_of c.args.view (file_of c.args.machine.now) c.args.commands.now c.args.refusal.now c.args.area.now c.args.tools.now c.args.swept.now
    c.args.labels.now c.args.work.now)) c.draw_picture.new.chunk
    (subst (λ (l : List ℕ). WritesPrefix (g.W.Sink.written c.args.sink.now) (g.W.Sink.written c.draw_picture.new.sink) l c.draw_picture.new.chunk)
    (from_start c.args.area.now
    (picture_of c.args.view (file_of c.args.machine.now) c.args.commands.now c.args.refusal.now c.args.area.now c.args.tools.now c.args.swept.now
    c.args.labels.now c.args.work.now) c.new-chunk.result c.new-chunk.ensures) c.in-Ok.ensures.drawn) c.write_out.ensures.ok

pub returns-in-Ok-clause-fault : goal.returns-in-Ok-clause-fault
returns-in-Ok-clause-fault g c =
    part_out c.write_out.result (g.W.Sink.written c.args.sink.now) (g.W.Sink.written c.draw_picture.new.sink) (g.W.Sink.written c.write_out.new.sink)
    (shapes_text (unit_of c.args.area.now)
    (picture_of c.args.view (file_of c.args.machine.now) c.args.commands.now c.args.refusal.now c.args.area.now c.args.tools.now c.args.swept.now
    c.args.labels.now c.args.work.now)) c.draw_picture.new.chunk
    (subst (λ (l : List ℕ). WritesPrefix (g.W.Sink.written c.args.sink.now) (g.W.Sink.written c.draw_picture.new.sink) l c.draw_picture.new.chunk)
    (from_start c.args.area.now
    (picture_of c.args.view (file_of c.args.machine.now) c.args.commands.now c.args.refusal.now c.args.area.now c.args.tools.now c.args.swept.now
    c.args.labels.now c.args.work.now) c.new-chunk.result c.new-chunk.ensures) c.in-Ok.ensures.drawn) c.write_out.ensures.fault

pub returns-in-Err-clause-fault : goal.returns-in-Err-clause-fault
returns-in-Err-clause-fault g c = subst (λ (l : List ℕ). AppendsPrefix (g.W.Sink.written c.args.sink.now) (g.W.Sink.written c.draw_picture.new.sink) l)
    (from_start c.args.area.now
    (picture_of c.args.view (file_of c.args.machine.now) c.args.commands.now c.args.refusal.now c.args.area.now c.args.tools.now c.args.swept.now
    c.args.labels.now c.args.work.now) c.new-chunk.result c.new-chunk.ensures) c.in-Err.ensures.drawn
