use Rattle.ngc_sentences.proofs.Said.{says_as}
use Rattle.ngc_program_report.proofs.demanded.say_missing.Goals as goal

pub returns-in-Words : goal.returns-in-Words
returns-in-Words g c = rw c.in-Words.is (says_as c.say.ensures c.missing_words.ensures)

pub returns-in-Json : goal.returns-in-Json
returns-in-Json g c = rw c.in-Json.is (says_as c.say-in-Json.ensures c.missing_fact.ensures)
