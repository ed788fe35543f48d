use Rattle.ngc_refused_values.specs.Texts.{inches_phrase}
use Rattle.ngc_refused_values.proofs.texts.say_inches_phrase.Goals as goal

pub returns-in-Some : goal.returns-in-Some
unfolding inches_phrase
returns-in-Some g c = rw (c.in-Some.is, ← c.from.ensures) c.say.ensures
