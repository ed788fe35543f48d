use Rattle.ngc_sentences.proofs.Said.{then}
use Rattle.ngc_tool_figures.proofs.spelling.say_feeding_fact.Goals as goal

pub returns : goal.returns
returns g c = rw (← c.signed.ensures) (then (then (then (then c.say_range_fact.ensures c.say_range_fact-2.ensures) c.say_range_fact-3.ensures) c.say_range_fact-4.ensures) c.say.ensures)
