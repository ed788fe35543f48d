use Rattle.ngc_machine_maker.specs.File.{heading}
use Rattle.ngc_machine_maker.proofs.file.say_heading.Goals as goal

pub returns : goal.returns
unfolding heading
returns g c =
    c.say.ensures
