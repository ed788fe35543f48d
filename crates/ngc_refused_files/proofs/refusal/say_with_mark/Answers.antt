use Rattle.ngc_sentences.proofs.Said.{then}
use Rattle.ngc_refused_files.specs.Refusals.{with_mark}
use Rattle.ngc_refused_files.proofs.refusal.say_with_mark.Goals as goal

pub returns : goal.returns
unfolding with_mark
returns g c = then c.say.ensures c.say_mark.ensures
