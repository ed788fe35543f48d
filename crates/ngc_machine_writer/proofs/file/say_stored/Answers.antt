use Rattle.ngc_sentences.proofs.Said.{then}
use Rattle.ngc_machine_writer.specs.File.{stored_origins}
use Rattle.ngc_machine_writer.proofs.file.say_stored.Goals as goal

pub returns : goal.returns
unfolding stored_origins
returns g c =
    then (then (then (then (then (then (c.say.ensures) c.say_some_place.ensures) c.say_some_place-2.ensures) c.say_some_place-3.ensures) c.say_some_place-4.ensures) c.say_some_place-5.ensures) c.say_some_place-6.ensures
