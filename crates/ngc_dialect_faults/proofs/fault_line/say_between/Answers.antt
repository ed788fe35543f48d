use Rattle.ngc_sentences.proofs.Said.{then}
use Rattle.ngc_dialect_faults.proofs.fault_line.say_between.Goals as goal

pub returns : goal.returns
returns g c = then c.say.ensures (then c.say_cause.ensures c.say-2.ensures)
