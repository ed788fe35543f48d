use Rattle.ngc_length_warnings.specs.BoxTexts.{cut_facts}
use Rattle.ngc_length_warnings.proofs.box_texts.say_cut_facts.Goals as goal

pub returns : goal.returns
unfolding cut_facts
returns g c = rw (c.system_name-name.ensures.text, c.from.ensures, c.from-2.ensures, c.from-3.ensures) at c.say.ensures
