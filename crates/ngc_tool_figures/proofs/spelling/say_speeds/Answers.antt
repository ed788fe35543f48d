use Rattle.ngc_sentences.proofs.Said.{then}
use Rattle.ngc_tool_figures.proofs.spelling.say_speeds.Goals as goal

pub returns : goal.returns
returns g c = then c.say_range.ensures c.say_range-2.ensures
