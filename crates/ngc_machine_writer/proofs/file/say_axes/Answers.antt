use Rattle.ngc_sentences.proofs.Said.{then}
use Rattle.ngc_machine_writer.specs.File.{axes_lines}
use Rattle.ngc_machine_writer.proofs.file.say_axes.Goals as goal

pub returns : goal.returns
unfolding axes_lines
returns g c =
    then (then (rw c.of_x-x.ensures at c.say_axis.ensures) (rw c.of_y-y.ensures at c.say_axis-2.ensures)) (rw c.of_z-z.ensures at c.say_axis-3.ensures)
