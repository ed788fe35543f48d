use Rattle.ngc_machine_maker.specs.File.{grbl_lines}
use Rattle.ngc_machine_maker.proofs.file.say_grbl.Goals as goal

pub returns : goal.returns
unfolding grbl_lines
returns g c =
    c.say.ensures
