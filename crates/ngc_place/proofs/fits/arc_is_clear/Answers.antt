use Rattle.ngc_machine_files.specs.Machine.{file_of}
use Rattle.ngc_place.proofs.Tests.{arc_is}
use Rattle.ngc_place.proofs.fits.arc_is_clear.Goals as goal

pub returns : goal.returns
returns g c =
    arc_is (file_of c.args.machine.now) c.args.tool.now c.args.shifts.now c.args.moves c.args.arc.now _ _ _ c.arc_box.ensures.low c.arc_box.ensures.high
    c.box_is_clear.ensures
