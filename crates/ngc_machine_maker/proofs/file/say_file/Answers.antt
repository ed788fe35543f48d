use Rattle.ngc_sentences.proofs.Said.{then}
use Rattle.ngc_machine_maker.proofs.file.say_file.Goals as goal

pub returns : goal.returns
returns g c =
    then (then (then (then (then (then (then (then (then (then (then (then c.say_heading.ensures c.say_scale_after.ensures) c.say_supplied.ensures) c.say_offset_after.ensures)
    c.say_step_lines.ensures) c.say_speed_lines.ensures) c.say_joint_lines.ensures) c.say_acceleration_lines.ensures) c.say_ring.ensures) c.say_arc_feed.ensures)
    c.say_places.ensures) c.say_origins.ensures) c.say_dialect.ensures
