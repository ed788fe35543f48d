use Rattle.ngc_sentences.proofs.Said.{then}
use Rattle.ngc_tool_figures.proofs.spelling.say_range.Goals as goal

pub returns-in-Some : goal.returns-in-Some
returns-in-Some g c = rw c.in-Some.is (then (then c.say.ensures c.say_both.ensures) c.say-in-Some.ensures)
