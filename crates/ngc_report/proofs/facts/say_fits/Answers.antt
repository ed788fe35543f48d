use Rattle.ngc_sentences.proofs.Said.{says_as}
use Rattle.ngc_report.specs.Facts.{fits_fact}
use Rattle.ngc_report.proofs.facts.say_fits.Goals as goal

pub returns-in-Some : goal.returns-in-Some
unfolding fits_fact
returns-in-Some g c =
    rw c.in-Some.is (says_as c.say-in-Some.ensures c.nose.ensures)
