use Rattle.ngc_sentences.proofs.Said.{says_as, then}
use Rattle.ngc_report.proofs.words.say_verdict.Goals as goal

pub returns : goal.returns
returns g c =
    then c.say_fits.ensures (says_as c.say.ensures c.described.ensures)
