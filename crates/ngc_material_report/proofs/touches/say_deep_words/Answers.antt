use Rattle.ngc_sentences.proofs.Said.{then}
use Rattle.ngc_material_report.proofs.touches.say_deep_words.Goals as goal

pub returns : goal.returns
returns g c = then c.say_motion_line.ensures (then c.say_part_words.ensures c.say_depth_words.ensures)
