use Rattle.ngc_sentences.proofs.Said.{then}
use Rattle.ngc_material_report.proofs.depths.say_words.Goals as goal

pub returns : goal.returns
returns g c = then c.say_deepest_words.ensures (then c.say_others_words.ensures c.say.ensures)
