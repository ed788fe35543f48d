use Rattle.ngc_sentences.proofs.Said.{then}
use Rattle.ngc_tool_figures.proofs.spelling.say_words.Goals as goal

pub returns : goal.returns
returns g c = then (then (then (then c.say.ensures c.say_tool.ensures) c.say-2.ensures) c.say_feeding.ensures) c.say_use.ensures
