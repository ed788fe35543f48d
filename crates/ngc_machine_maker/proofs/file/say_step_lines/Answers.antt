use Rattle.ngc_sentences.proofs.Said.{then}
use Rattle.ngc_machine_maker.specs.File.{step_lines}
use Rattle.ngc_machine_maker.proofs.file.say_step_lines.Goals as goal

pub returns : goal.returns
unfolding step_lines
returns g c =
    then (then c.say.ensures (rw c.from.ensures at c.say_line.ensures)) (rw c.from-2.ensures at c.say_line-2.ensures)
