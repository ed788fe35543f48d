use Rattle.ngc_report.proofs.quotes.say_shown.Goals as goal

pub returns : goal.returns
returns g c =
    rw (← c.from.ensures, ← c.shown_bytes-shown.ensures.text, ← c.as_slice.ensures.value) c.say.ensures
