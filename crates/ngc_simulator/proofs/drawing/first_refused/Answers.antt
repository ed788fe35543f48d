use Rattle.std.proofs.Common.{◌∙◌, ap, sym}
use Rattle.std.specs.List.{slice_get}
use Rattle.ngc_machine_files.specs.Machine.{file_of}
use Rattle.ngc_simulator.proofs.DrawLaws.{first_of, start_refused}
use Rattle.ngc_simulator.proofs.drawing.first_refused.Goals as goal

pub returns-then-is_some : goal.returns-then-is_some
returns-then-is_some g c = start_refused (file_of c.args.machine.now) c.args.commands.now c.to_grid.result c.place_fault.result
    c.to_grid.ensures.value c.place_fault.ensures (sym c.is_some.ensures ∙ c.if-is_some.true)

pub returns-in-Ok : goal.returns-in-Ok
returns-in-Ok g c = first_of (file_of c.args.machine.now) c.args.commands.now c.to_grid.result c.place_fault.result c.in-Ok.indices.items c.copied.result
    c.to_grid.ensures.value c.place_fault.ensures (sym c.is_some.ensures ∙ c.if-is_some.false) c.in-Ok.ensures
    (c.copied.ensures ∙ c.first.ensures.value ∙ ap (λ items. slice_get items 0) c.deref.ensures.value)
