use Rattle.ngc_machine_maker.specs.Sentences.{place_text}
use Rattle.ngc_machine_maker.proofs.sentences.say_place.Goals as goal

pub returns : goal.returns
unfolding place_text
returns g c =
    rw (← c.stored_name.ensures) c.say.ensures
