use Rattle.ngc_sentences.proofs.Said.{whole}
use Rattle.ngc_machine_mistakes.proofs.mistake.write_line.Goals as goal

pub returns-clause-fault : goal.returns-clause-fault
returns-clause-fault g c = (whole c.new-page.ensures c.say_line.ensures c.finish.ensures).fault
