use Rattle.ngc_sentences.proofs.Said.{whole}
use Rattle.ngc_tool_mistakes.proofs.mistake.write_range.Goals as goal

pub returns-clause-fault : goal.returns-clause-fault
returns-clause-fault g c = (whole c.new-page.ensures c.say_range.ensures c.finish.ensures).fault
