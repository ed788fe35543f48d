use Rattle.ngc_refused_values.specs.Texts.{selection_text}
use Rattle.ngc_refused_values.proofs.texts.say_selection.Goals as goal

pub returns-in-Words : goal.returns-in-Words
unfolding selection_text
returns-in-Words g c = rw (c.in-Some.is, c.in-Words.is, ← c.selection_phrase-phrase.ensures) c.say_line.ensures

pub returns-in-Json : goal.returns-in-Json
unfolding selection_text
returns-in-Json g c =
    rw (c.in-Some.is, c.in-Json.is, ← c.selection_phrase-phrase.ensures, ← c.selection_values.ensures) c.say_fact.ensures
