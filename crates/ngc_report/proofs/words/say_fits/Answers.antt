use Rattle.ngc_sentences.proofs.Said.{says_as}
use Rattle.ngc_report.specs.Words.{fits_text}
use Rattle.ngc_report.proofs.words.say_fits.Goals as goal

pub returns-in-None : goal.returns-in-None
unfolding fits_text
returns-in-None g c =
    rw c.in-None.is c.say.ensures

pub returns-in-Some : goal.returns-in-Some
unfolding fits_text
returns-in-Some g c =
    rw c.in-Some.is (says_as c.say-in-Some.ensures c.nose.ensures)
