use Rattle.ngc_sentences.proofs.Said.{then}
use Rattle.ngc_place_report.specs.Words.{along_words}
use Rattle.ngc_place_report.proofs.words.say_along.Goals as goal

pub returns : goal.returns
unfolding along_words
returns g c =
    rw (← c.axis_text.ensures) (then (then (then c.say.ensures c.say_finding.ensures) c.say_staying.ensures) c.say-2.ensures)
