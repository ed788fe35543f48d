use Rattle.ngc_sentences.proofs.Said.{then}
use Rattle.ngc_machine_maker.specs.File.{acceleration_lines}
use Rattle.ngc_machine_maker.proofs.file.say_acceleration_lines.Goals as goal

pub returns : goal.returns
unfolding acceleration_lines
returns g c =
    then (rw (c.from.ensures, c.acceleration.ensures) at c.say_line.ensures)
    (rw (c.arcs_remark-arcs.ensures, c.arc_acceleration.ensures) at c.say_line-2.ensures)
