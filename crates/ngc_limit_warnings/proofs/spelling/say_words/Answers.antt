use Rattle.ngc_sentences.proofs.Said.{then}
use Rattle.ngc_limit_warnings.proofs.spelling.say_words.Goals as goal

pub returns : goal.returns
returns g c =
    then (then (then (rw (c.kind_text.ensures, c.from.ensures) at c.say.ensures)
    (rw (c.from-2.ensures, c.unit_text.ensures, c.from-3.ensures) at c.say-2.ensures)) c.say_limits.ensures)
    (rw c.unit_text-2.ensures at c.say-3.ensures)
