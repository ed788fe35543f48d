use Rattle.ngc_sentences.proofs.Said.{then}
use Rattle.ngc_machine_writer.specs.Axes.{axis_lines}
use Rattle.ngc_machine_writer.proofs.axis.say_axis.Goals as goal

pub returns : goal.returns
unfolding axis_lines
returns g c =
    then (then (then (then c.say.ensures (rw c.from.ensures at c.say_quantity.ensures)) c.say_travel.ensures) c.say_speed.ensures) c.say_acceleration.ensures
