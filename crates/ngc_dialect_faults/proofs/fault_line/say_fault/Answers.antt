use Rattle.ngc_sentences.proofs.Said.{then}
use Rattle.ngc_dialect_faults.proofs.fault_line.say_fault.Goals as goal

pub returns : goal.returns
returns g c =
    then (then (then (then (rw (c.from.ensures, c.number.ensures, c.from-2.ensures) at c.say.ensures) c.say_column.ensures) c.say-2.ensures) c.say_cause.ensures) c.say-3.ensures
