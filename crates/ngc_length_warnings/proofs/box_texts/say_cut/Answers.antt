use Rattle.ngc_length_warnings.specs.BoxTexts.{cut_words}
use Rattle.ngc_length_warnings.proofs.box_texts.say_cut.Goals as goal

pub returns : goal.returns
unfolding cut_words
returns g c = rw (c.system_name-name.ensures.text, c.from.ensures) at c.say.ensures
