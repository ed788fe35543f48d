use Rattle.ngc_sentences.proofs.Said.{then}
use Rattle.ngc_machine_writer.specs.File.{place_lines}
use Rattle.ngc_machine_writer.proofs.file.say_places.Goals as goal

pub returns : goal.returns
unfolding place_lines
returns g c =
    then (then (rw c.coordinates-start.ensures at c.say_place.ensures) (rw c.home_of-home28.ensures at c.say_some_place.ensures)) (rw c.home_of-home30.ensures at c.say_some_place-2.ensures)
