use Rattle.ngc_sentences.proofs.Said.{then}
use Rattle.ngc_stock_report.specs.Overlaps.{overlap_words}
use Rattle.ngc_stock_report.proofs.overlaps.say_words.Goals as goal

pub returns : goal.returns
unfolding overlap_words
returns g c = then c.say_number.ensures (then c.say_bracketed.ensures c.say.ensures)
