use Rattle.std.proofs.Common.{ap, ◌∙◌}
use Rattle.ngc_fixed_length.specs.Grid.{grid}
use Rattle.ngc_machine_files.specs.Machine.{file_of}
use Rattle.ngc_place.specs.Shifts.{shifted}
use Rattle.ngc_place.proofs.Tests.{place_is}
use Rattle.ngc_place.proofs.fits.place_is_clear.Goals as goal

pub returns : goal.returns
returns g c =
    let machine = file_of c.args.machine.now in
    place_is machine c.args.tool.now (shifted machine.step c.args.shifts.now.low c.args.moves c.args.place.now)
    (shifted machine.step c.args.shifts.now.high c.args.moves c.args.place.now) _ _ _ _
    (c.to_grid-low.ensures ∙ ap (grid machine.step) c.shifted.ensures.value) (c.to_grid-high.ensures ∙ ap (grid machine.step) c.shifted-2.ensures.value)
    c.first_met.ensures c.is_none.ensures
