use Rattle.ngc_sentences.proofs.Said.{then}
use Rattle.ngc_machine_writer.proofs.file.say_file.Goals as goal

pub returns : goal.returns
returns g c =
    then (then (then (then (then (then (then (then (then (then (c.say_heading.ensures) c.say_supplied.ensures) c.say_offset_after.ensures) c.say.ensures) c.say_dialect.ensures) c.say_ticks.ensures) c.say_joints.ensures) c.say_path.ensures) c.say_places.ensures) c.say_axes.ensures) c.say_origins.ensures
