use Rattle.ngc_sentences.proofs.Said.{then}
use Rattle.ngc_place_report.specs.Words.{interval_words}
use Rattle.ngc_place_report.proofs.words.say_interval.Goals as goal

pub returns : goal.returns
unfolding interval_words
returns g c = then (then (then c.say.ensures c.say_shift.ensures) c.say-2.ensures) c.say_shift-2.ensures
