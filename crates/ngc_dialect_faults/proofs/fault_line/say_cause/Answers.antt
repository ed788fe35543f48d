use Rattle.ngc_dialect_faults.proofs.fault_line.say_cause.Goals as goal

pub returns-in-NothingSaved : goal.returns-in-NothingSaved
returns-in-NothingSaved g c = rw c.in-NothingSaved.is c.say-in-NothingSaved.ensures
