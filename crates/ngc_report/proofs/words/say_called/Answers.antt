use Rattle.ngc_sentences.proofs.Said.{then}
use Rattle.ngc_report.specs.Words.{called_text}
use Rattle.ngc_report.proofs.words.say_called.Goals as goal

pub returns-in-Some : goal.returns-in-Some
unfolding called_text
returns-in-Some g c =
    rw c.in-Some.is (then c.say-in-Some.ensures c.say_bracketed.ensures)
