use Rattle.ngc_sentences.proofs.Said.{then}
use Rattle.ngc_material_report.proofs.touches.say_motions.Goals as goal

pub returns-in-Words : goal.returns-in-Words
returns-in-Words g c = rw c.in-Words.is (then (rw c.first.ensures at c.say_all_words.ensures) (rw c.last_line.ensures at c.say_count.ensures))
