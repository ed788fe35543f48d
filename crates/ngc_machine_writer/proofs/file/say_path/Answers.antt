use Rattle.ngc_sentences.proofs.Said.{then}
use Rattle.ngc_machine_writer.specs.File.{path_lines}
use Rattle.ngc_machine_writer.proofs.file.say_path.Goals as goal

pub returns : goal.returns
unfolding path_lines
returns g c =
    then (then (then (then (c.say_ring_comment.ensures) c.say_number.ensures) c.say_arc_feed_comment.ensures) (rw c.arc_feed_of-arc_feed.ensures at c.say_number-2.ensures)) c.say_turn.ensures
