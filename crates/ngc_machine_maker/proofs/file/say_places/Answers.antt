use Rattle.ngc_sentences.proofs.Said.{then}
use Rattle.ngc_machine_maker.specs.File.{place_lines}
use Rattle.ngc_machine_maker.proofs.file.say_places.Goals as goal

pub returns : goal.returns
unfolding place_lines
returns g c =
    then (then (then (then c.say_place.ensures c.say_place-2.ensures) c.say_place-3.ensures) (rw c.home_by-home28.ensures at c.say_place-4.ensures))
    (rw c.home_by-home30.ensures at c.say_place-5.ensures)
