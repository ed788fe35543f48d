use Rattle.ngc_sentences.proofs.Said.{then}
use Rattle.ngc_material_report.specs.Sentences.{cut_words}
use Rattle.ngc_material_report.proofs.cuts.say_words.Goals as goal

pub returns : goal.returns
unfolding cut_words
returns g c = then c.say_depth.ensures (then (rw (← c.short_cutter.ensures) c.say_short.ensures) c.say.ensures)
