use Rattle.ngc_sentences.proofs.Said.{then}
use Rattle.ngc_place_report.specs.Words.{shortest_words}
use Rattle.ngc_place_report.proofs.words.say_shortest.Goals as goal

pub returns-in-NotCleared : goal.returns-in-NotCleared
unfolding shortest_words
returns-in-NotCleared g c =
    rw (c.in-NotCleared.is, ← c.axis_text.ensures) (then (then c.say.ensures c.say_shift.ensures) c.say-in-NotCleared.ensures)
