use Rattle.ngc_sentences.proofs.Said.{then}
use Rattle.ngc_tool_figures.proofs.spelling.say_feeding.Goals as goal

pub returns : goal.returns
returns g c = rw (← c.millimetres.ensures) (then (then (then c.say_range.ensures c.say_range-2.ensures) c.say_spindle.ensures) c.say.ensures)
