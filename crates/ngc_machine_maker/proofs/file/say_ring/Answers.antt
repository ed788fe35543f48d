use Rattle.ngc_sentences.proofs.Said.{then}
use Rattle.ngc_machine_maker.specs.File.{ring_lines}
use Rattle.ngc_machine_maker.proofs.file.say_ring.Goals as goal

pub returns : goal.returns
unfolding ring_lines
returns g c =
    then c.say.ensures (rw c.from.ensures at c.say_line.ensures)
