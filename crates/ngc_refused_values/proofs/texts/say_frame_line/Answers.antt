use Rattle.ngc_sentences.proofs.Said.{then}
use Rattle.ngc_refused_values.proofs.texts.say_frame_line.Goals as goal

pub returns-in-Words : goal.returns-in-Words
returns-in-Words g c = rw (c.in-BeyondRange.is, c.in-Words.is) (then c.say_far_phrase.ensures c.say.ensures)

pub returns-in-Json : goal.returns-in-Json
returns-in-Json g c =
    rw (c.in-BeyondRange.is, c.in-Json.is)
    (then (then (then (then c.begin_fact.ensures c.say_far_phrase-in-Json.ensures) c.say-in-Json.ensures) c.say_far_values.ensures) c.say-in-Json-2.ensures)
