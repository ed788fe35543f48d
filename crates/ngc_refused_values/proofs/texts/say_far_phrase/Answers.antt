use Rattle.std.proofs.lemmas.List.{append_assoc}
use Rattle.ngc_sentences.proofs.Said.{then, says_as}
use Rattle.ngc_refused_values.specs.Texts.{far_phrase}
use Rattle.ngc_refused_values.proofs.texts.say_far_phrase.Goals as goal

pub returns : goal.returns
unfolding far_phrase
returns g c =
    rw (← c.quantity_name.ensures, ← c.axis_name.ensures, ← c.limit.ensures, ← c.size.ensures)
    (says_as (then (then (then c.say.ensures (says_as c.say-2.ensures c.far.ensures)) c.say-3.ensures) c.say_inches_phrase.ensures) (simp append_assoc))
