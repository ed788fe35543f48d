use Rattle.ngc_sentences.proofs.Said.{then}
use Rattle.ngc_margins.specs.Lines.{values_fact}
use Rattle.ngc_margins.proofs.report_lines.say_values.Goals as goal

pub returns : goal.returns
unfolding values_fact
returns g c = then c.say_lengths.ensures (then c.say_motors.ensures c.say.ensures)
