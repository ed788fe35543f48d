use Rattle.ngc_refused_values.proofs.texts.say_arc_line.Goals as goal

pub returns-in-Words : goal.returns-in-Words
returns-in-Words g c = rw (c.in-RadiiDiffer.is, c.in-Words.is, ← c.radii_phrase-phrase.ensures) c.say_line.ensures

pub returns-in-Json : goal.returns-in-Json
returns-in-Json g c =
    rw (c.in-RadiiDiffer.is, c.in-Json.is, ← c.radii_phrase-phrase.ensures, ← c.radii_values.ensures) c.say_fact.ensures
