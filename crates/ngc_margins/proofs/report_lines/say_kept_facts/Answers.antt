use Rattle.ngc_sentences.proofs.Said.{then}
use Rattle.ngc_margins.proofs.report_lines.say_kept_facts.Goals as goal

pub returns : goal.returns
returns g c = then c.say_margins_fact.ensures c.say_rapids_fact.ensures
