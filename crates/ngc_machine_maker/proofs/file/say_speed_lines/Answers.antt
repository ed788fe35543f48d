use Rattle.ngc_sentences.proofs.Said.{then}
use Rattle.ngc_machine_maker.specs.File.{speed_lines}
use Rattle.ngc_machine_maker.proofs.file.say_speed_lines.Goals as goal

pub returns : goal.returns
unfolding speed_lines
returns g c =
    then c.say_rate.ensures (rw c.speeds.ensures at c.say_line.ensures)
