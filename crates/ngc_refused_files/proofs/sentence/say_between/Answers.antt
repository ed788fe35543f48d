use Rattle.ngc_refused_files.specs.Sentences.{between_text}
use Rattle.ngc_refused_files.proofs.sentence.say_between.Goals as goal

pub returns : goal.returns
unfolding between_text
returns g c = rw (← c.signed.ensures, ← c.signed-2.ensures) c.say.ensures
