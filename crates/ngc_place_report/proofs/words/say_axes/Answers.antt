use Rattle.ngc_sentences.proofs.Said.{then}
use Rattle.ngc_place_report.specs.Words.{axes_words}
use Rattle.ngc_place_report.proofs.words.say_axes.Goals as goal

pub returns : goal.returns
unfolding axes_words
returns g c = then (then c.say_along.ensures c.say_along-2.ensures) c.say_along-3.ensures
