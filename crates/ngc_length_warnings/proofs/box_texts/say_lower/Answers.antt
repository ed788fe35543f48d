use Rattle.ngc_length_warnings.specs.BoxTexts.{lower_words}
use Rattle.ngc_length_warnings.proofs.box_texts.say_lower.Goals as goal

pub returns : goal.returns
unfolding lower_words
returns g c = rw (c.from.ensures, c.from-2.ensures) at c.say.ensures
