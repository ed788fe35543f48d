use Rattle.ngc_machine_maker.specs.Sentences.{value_text}
use Rattle.ngc_machine_maker.proofs.sentences.say_value.Goals as goal

pub returns : goal.returns
unfolding value_text
returns g c =
    rw (← c.from.ensures) c.say.ensures
