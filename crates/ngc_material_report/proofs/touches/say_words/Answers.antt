use Rattle.ngc_sentences.proofs.Said.{then}
use Rattle.ngc_material_report.specs.Sentences.{touch_words}
use Rattle.ngc_material_report.proofs.touches.say_words.Goals as goal

pub returns : goal.returns
unfolding touch_words
returns g c = then c.say_deep_words.ensures c.say_place_words.ensures
