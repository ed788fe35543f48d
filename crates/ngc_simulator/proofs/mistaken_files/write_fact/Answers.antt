use Rattle.ngc_sentences.proofs.Said.{whole}
use Rattle.ngc_simulator.proofs.mistaken_files.write_fact.Goals as goal

pub returns-clause-ok : goal.returns-clause-ok
returns-clause-ok g c = (whole c.new-page.ensures c.say_fact.ensures c.finish.ensures).ok

pub returns-clause-fault : goal.returns-clause-fault
returns-clause-fault g c = (whole c.new-page.ensures c.say_fact.ensures c.finish.ensures).fault
