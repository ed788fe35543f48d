use Rattle.std.proofs.Common.{◌≡◌, [], ◌∷◌, subst}
use Rattle.ngc_machine_files.specs.Machine.{MachineFile, file_of}
use Rattle.ngc_place.specs.Longest.{IsNearest}
use Rattle.ngc_place.proofs.SamePrograms.{nearest_both}
use Rattle.ngc_place_report.proofs.along.nearest_of_both.Goals as goal

pub returns-then-are_same-clause-nearest : goal.returns-then-are_same-clause-nearest
returns-then-are_same-clause-nearest g c =
    let off = c.args.programs.now.off in
    let on = c.args.programs.now.on in
    let same = c.are_same.ensures c.if-are_same.true in
    subst (λ (m : MachineFile). IsNearest m c.args.cuts c.args.axis (off ∷ on ∷ []) c.nearest.result) c.machine.ensures.value
    (nearest_both (file_of c.machine.result.now) c.args.cuts c.args.axis off on c.nearest.result same.commands same.marks c.nearest.ensures.nearest)
