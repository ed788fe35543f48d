use Rattle.ngc_sentences.proofs.Said.{then}
use Rattle.ngc_material_report.proofs.touches.say_upper_words.Goals as goal

pub returns : goal.returns
returns g c = then c.say_above_words.ensures (rw (← c.found_radius.ensures) c.say_width_words.ensures)
