use Rattle.ngc_sentences.proofs.Said.{then}
use Rattle.ngc_length_warnings.proofs.spelling.say_fact.Goals as goal

pub returns : goal.returns
returns g c = then (then (rw (c.kind_text.ensures, c.from.ensures) at c.say.ensures) c.say_numbers.ensures) c.say-2.ensures
