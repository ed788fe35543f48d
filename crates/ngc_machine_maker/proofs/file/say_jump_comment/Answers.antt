use Rattle.ngc_machine_maker.specs.File.{jump_comment}
use Rattle.ngc_machine_maker.proofs.file.say_jump_comment.Goals as goal

pub returns : goal.returns
unfolding jump_comment
returns g c =
    c.say.ensures
