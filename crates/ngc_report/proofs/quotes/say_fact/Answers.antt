use Rattle.ngc_sentences.proofs.Said.{then}
use Rattle.ngc_report.proofs.quotes.say_fact.Goals as goal

pub returns : goal.returns
returns g c =
    rw (← c.from.ensures, ← c.shown_bytes-shown.ensures.text, ← c.as_slice.ensures.value)
    (then (then c.say.ensures c.say_string.ensures) c.say-2.ensures)
