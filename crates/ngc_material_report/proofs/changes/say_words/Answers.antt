use Rattle.ngc_sentences.proofs.Said.{then}
use Rattle.ngc_material_report.specs.Sentences.{change_words}
use Rattle.ngc_material_report.proofs.changes.say_words.Goals as goal

pub returns : goal.returns
unfolding change_words
returns g c = then c.say_low_words.ensures c.say_place_words.ensures
