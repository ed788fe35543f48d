use Rattle.ngc_sentences.proofs.Said.{then}
use Rattle.ngc_tool_figures.proofs.spelling.say_range_fact.Goals as goal

pub returns : goal.returns
returns g c = then c.say.ensures c.say_range_value.ensures
