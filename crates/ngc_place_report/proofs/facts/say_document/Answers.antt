use Rattle.ngc_sentences.proofs.Said.{then}
use Rattle.ngc_place_report.specs.Facts.{placement_facts}
use Rattle.ngc_place_report.proofs.facts.say_document.Goals as goal

pub returns : goal.returns
unfolding placement_facts
returns g c =
    rw (← c.shortest-nearest.ensures)
    (then (then (then (then (then (then c.say.ensures c.say_origin.ensures) c.say_here.ensures) c.say_axes.ensures) c.say_nearest.ensures) c.say_missing.ensures)
    c.say-2.ensures)
