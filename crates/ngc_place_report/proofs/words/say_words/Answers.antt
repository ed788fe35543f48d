use Rattle.ngc_sentences.proofs.Said.{then}
use Rattle.ngc_place_report.specs.Words.{placement_words}
use Rattle.ngc_place_report.proofs.words.say_words.Goals as goal

pub returns : goal.returns
unfolding placement_words
returns g c =
    rw (← c.shortest-nearest.ensures)
    (then (then (then (then c.say_origin.ensures c.say_here.ensures) c.say_axes.ensures) c.say_nearest.ensures) c.say_missing.ensures)
