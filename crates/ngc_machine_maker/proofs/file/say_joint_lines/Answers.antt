use Rattle.ngc_sentences.proofs.Said.{then}
use Rattle.ngc_machine_maker.specs.File.{joint_lines}
use Rattle.ngc_machine_maker.proofs.file.say_joint_lines.Goals as goal

pub returns : goal.returns
unfolding joint_lines
returns g c =
    then (then (then c.say_corner_comment.ensures c.say_rate.ensures) c.say_jump_comment.ensures) c.say_rate-2.ensures
