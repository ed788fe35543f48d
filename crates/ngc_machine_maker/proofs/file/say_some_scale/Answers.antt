use Rattle.ngc_sentences.proofs.Said.{then}
use Rattle.ngc_machine_maker.proofs.file.say_some_scale.Goals as goal

pub returns : goal.returns
returns g c =
    then c.say.ensures c.say_scale.ensures
