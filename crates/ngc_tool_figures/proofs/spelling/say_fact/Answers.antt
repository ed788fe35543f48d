use Rattle.ngc_sentences.proofs.Said.{then}
use Rattle.ngc_tool_figures.proofs.spelling.say_fact.Goals as goal

pub returns : goal.returns
returns g c = then (then (then c.say.ensures c.say_tool_value.ensures) c.say_feeding_fact.ensures) c.say_use_fact.ensures
