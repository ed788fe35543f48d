use Rattle.ngc_sentences.proofs.Said.{then}
use Rattle.ngc_place_report.specs.Facts.{axes_facts}
use Rattle.ngc_place_report.proofs.facts.say_axes.Goals as goal

pub returns : goal.returns
unfolding axes_facts
returns g c = then (then c.say_along.ensures c.say_along-2.ensures) c.say_along-3.ensures
