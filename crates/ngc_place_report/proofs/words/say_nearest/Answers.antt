use Rattle.ngc_sentences.proofs.Said.{then}
use Rattle.ngc_place_report.specs.Words.{nearest_words, tested_words}
use Rattle.ngc_place_report.proofs.words.say_nearest.Goals as goal

pub returns-in-Some : goal.returns-in-Some
unfolding nearest_words tested_words
returns-in-Some g c = rw c.in-Some.is (then c.say.ensures c.say_shortest.ensures)
