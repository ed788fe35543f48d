use Rattle.ngc_sentences.proofs.Said.{then}
use Rattle.ngc_report.specs.Facts.{tool_fact}
use Rattle.ngc_report.proofs.facts.say_tool.Goals as goal

pub returns-in-Some : goal.returns-in-Some
unfolding tool_fact
returns-in-Some g c =
    rw (c.in-Some.is, ← c.from.ensures) (then c.say-in-Some.ensures c.say_name.ensures)
