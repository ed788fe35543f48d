use Rattle.ngc_sentences.proofs.Said.{then}
use Rattle.ngc_machine_writer.specs.File.{joint_lines}
use Rattle.ngc_machine_writer.proofs.file.say_joints.Goals as goal

pub returns : goal.returns
unfolding joint_lines
returns g c =
    then (then (then (c.say_corner_comment.ensures) c.say_speed.ensures) c.say_jump_comment.ensures) (rw c.jump_of-jump.ensures at c.say_speed-2.ensures)
