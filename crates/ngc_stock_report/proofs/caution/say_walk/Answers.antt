use Rattle.ngc_sentences.proofs.Said.{then}
use Rattle.ngc_stock_report.specs.Cautions.{walk_caution}
use Rattle.ngc_stock_report.proofs.caution.say_walk.Goals as goal

pub returns : goal.returns
unfolding walk_caution
returns g c = then c.say_found.ensures c.say_found-2.ensures
