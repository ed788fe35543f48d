use Rattle.ngc_sentences.proofs.Said.{then}
use Rattle.ngc_machine_maker.proofs.sentences.say_refusal_line.Goals as goal

pub returns : goal.returns
returns g c =
    then c.say_refusal.ensures c.say.ensures
