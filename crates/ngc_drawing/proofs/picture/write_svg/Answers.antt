use Rattle.std.proofs.Common.{ℕ, [], List, refl, subst}
use Rattle.std.specs.Io.KnownBytes.{Appends}
use Rattle.ngc_text.specs.Written.{AppendsPrefix}
use Rattle.ngc_machine_files.specs.Machine.{file_of}
use Rattle.ngc_drawing.specs.Pictures.{picture_text}
use Rattle.ngc_picture_shapes.proofs.ShapeProgress.{appends_none}
use Rattle.ngc_drawing.proofs.WholePicture.{of_commands}
use Rattle.ngc_drawing.proofs.picture.write_svg.Goals as goal

pub returns-in_default-clause-fault : goal.returns-in_default-clause-fault
returns-in_default-clause-fault g c = (
  [],
  picture_text c.args.look.now (file_of c.args.machine.now) c.args.commands.now c.args.motions.now c.args.refusal.now c.args.work.now,
  refl,
  appends_none (g.W.Sink.written c.args.sink.now),
)

pub returns-in_default-shown_sweeps-clause-fault : goal.returns-in_default-shown_sweeps-clause-fault
returns-in_default-shown_sweeps-clause-fault g c = (
  [],
  picture_text c.args.look.now (file_of c.args.machine.now) c.args.commands.now c.args.motions.now c.args.refusal.now c.args.work.now,
  refl,
  appends_none (g.W.Sink.written c.args.sink.now),
)

pub returns-in_default-labels-clause-fault : goal.returns-in_default-labels-clause-fault
returns-in_default-labels-clause-fault g c = (
  [],
  picture_text c.args.look.now (file_of c.args.machine.now) c.args.commands.now c.args.motions.now c.args.refusal.now c.args.work.now,
  refl,
  appends_none (g.W.Sink.written c.args.sink.now),
)

pub returns-in-Ok-write_picture-clause-ok : goal.returns-in-Ok-write_picture-clause-ok
returns-in-Ok-write_picture-clause-ok g c =
    subst (λ (l : List ℕ). Appends (g.W.Sink.written c.args.sink.now) (g.W.Sink.written c.write_picture.new.sink) l)
    (of_commands c.args.look.now (file_of c.args.machine.now) c.args.commands.now c.args.motions.now c.args.refusal.now c.args.work.now c.in-Ok.tools.items
    c.as_slice.result.now c.as_slice-2.result.now c.in-Ok-shown_sweeps.swept.items c.as_slice-3.result.now c.frame-area.result c.unit_of-unit.result.micrometres
    c.in-Ok-labels.labels.items c.as_slice-4.result.now
    c.in-Ok.ensures c.as_slice.ensures.value c.as_slice-2.ensures.value c.in-Ok-shown_sweeps.ensures c.as_slice-3.ensures.value c.frame-area.ensures
    c.unit_of-unit.ensures c.in-Ok-labels.ensures c.as_slice-4.ensures.value) c.in-Ok-write_picture.ensures.ok

pub returns-clause-fault : goal.returns-clause-fault
returns-clause-fault g c =
    subst (λ (l : List ℕ). AppendsPrefix (g.W.Sink.written c.args.sink.now) (g.W.Sink.written c.write_picture.new.sink) l)
    (of_commands c.args.look.now (file_of c.args.machine.now) c.args.commands.now c.args.motions.now c.args.refusal.now c.args.work.now c.in-Ok.tools.items
    c.as_slice.result.now c.as_slice-2.result.now c.in-Ok-shown_sweeps.swept.items c.as_slice-3.result.now c.frame-area.result c.unit_of-unit.result.micrometres
    c.in-Ok-labels.labels.items c.as_slice-4.result.now
    c.in-Ok.ensures c.as_slice.ensures.value c.as_slice-2.ensures.value c.in-Ok-shown_sweeps.ensures c.as_slice-3.ensures.value c.frame-area.ensures
    c.unit_of-unit.ensures c.in-Ok-labels.ensures c.as_slice-4.ensures.value) c.in-Err.ensures.fault
