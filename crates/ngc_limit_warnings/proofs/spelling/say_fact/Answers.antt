use Rattle.ngc_sentences.proofs.Said.{then}
use Rattle.ngc_limit_warnings.proofs.spelling.say_fact.Goals as goal

pub returns : goal.returns
returns g c =
    then (then (rw (c.kind_text.ensures, c.from.ensures) at c.say.ensures) (rw (c.from-2.ensures, c.from-3.ensures) at c.say-2.ensures))
    (rw (c.from-4.ensures, c.from-5.ensures) at c.say-3.ensures)
