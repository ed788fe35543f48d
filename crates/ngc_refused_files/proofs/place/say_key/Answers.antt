use Rattle.ngc_sentences.proofs.Said.{then}
use Rattle.ngc_refused_files.specs.Places.{key_text}
use Rattle.ngc_refused_files.proofs.place.say_key.Goals as goal

pub returns : goal.returns
unfolding key_text
returns g c = then c.say_section.ensures c.say.ensures
