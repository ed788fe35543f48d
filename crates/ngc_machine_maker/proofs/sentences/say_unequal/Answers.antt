use Rattle.ngc_machine_maker.specs.Sentences.{unequal_text}
use Rattle.ngc_machine_maker.proofs.sentences.say_unequal.Goals as goal

pub returns : goal.returns
unfolding unequal_text
returns g c =
    rw (← c.from.ensures, ← c.from-2.ensures, ← c.from-3.ensures) c.say.ensures
