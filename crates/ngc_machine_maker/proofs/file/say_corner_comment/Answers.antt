use Rattle.ngc_machine_maker.specs.File.{corner_comment}
use Rattle.ngc_machine_maker.proofs.file.say_corner_comment.Goals as goal

pub returns : goal.returns
unfolding corner_comment
returns g c =
    c.say.ensures
