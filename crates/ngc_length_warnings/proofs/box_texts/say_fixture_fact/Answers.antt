use Rattle.ngc_sentences.proofs.Said.{then}
use Rattle.ngc_length_warnings.proofs.box_texts.say_fixture_fact.Goals as goal

pub returns : goal.returns
returns g c = then c.say_first_fact.ensures c.say_cut_facts.ensures
