use Rattle.ngc_place_report.specs.Words.{finding_words}
use Rattle.ngc_place_report.proofs.words.say_finding.Goals as goal

pub returns-in-Unmoved : goal.returns-in-Unmoved
unfolding finding_words
returns-in-Unmoved g c = rw (c.in-Unmoved.is, ← c.code_text.ensures) c.say.ensures
