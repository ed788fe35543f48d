use Rattle.ngc_map_picture.proofs.picture.write_size.Goals as goal

pub returns-clause-ok : goal.returns-clause-ok
returns-clause-ok g c = rw (← c.header-size.ensures) c.write_chunk.ensures.ok

pub returns-clause-fault : goal.returns-clause-fault
returns-clause-fault g c = rw (← c.header-size.ensures) c.write_chunk.ensures.fault
