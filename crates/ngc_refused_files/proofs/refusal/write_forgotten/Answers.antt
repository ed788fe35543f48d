use Rattle.ngc_refused_files.proofs.refusal.write_forgotten.Goals as goal

pub returns-clause-ok : goal.returns-clause-ok
returns-clause-ok g c = rw (← c.forgotten-refusal.ensures) c.write_refusal.ensures.ok

pub returns-clause-fault : goal.returns-clause-fault
returns-clause-fault g c = rw (← c.forgotten-refusal.ensures) c.write_refusal.ensures.fault
