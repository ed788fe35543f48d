use Rattle.ngc_sentences.proofs.Said.{then}
use Rattle.ngc_refused_values.specs.Texts.{far_values}
use Rattle.ngc_refused_values.proofs.texts.say_far_values.Goals as goal

pub returns : goal.returns
unfolding far_values
returns g c =
    rw (← c.axis_name.ensures, ← c.nanometres.ensures, ← c.limit.ensures, ← c.from.ensures) (then c.say.ensures c.say_inches_fact.ensures)
