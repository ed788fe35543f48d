use Rattle.ngc_sentences.proofs.Said.{then}
use Rattle.ngc_margins.proofs.report_lines.say_kept_words.Goals as goal

pub returns : goal.returns
returns g c = then (then c.say_margin.ensures c.say_travel_margin.ensures) c.say_rapids.ensures
