use Rattle.ngc_sentences.proofs.Said.{then}
use Rattle.ngc_machine_maker.specs.DumpLines.{all_origins}
use Rattle.ngc_machine_maker.proofs.dump_lines.say_all_origins.Goals as goal

pub returns : goal.returns
unfolding all_origins
returns g c =
    then (then (then (then (then (then (then c.say.ensures c.say_stored.ensures) c.say_stored-2.ensures) c.say_stored-3.ensures) c.say_stored-4.ensures) c.say_stored-5.ensures)
    c.say_stored-6.ensures) c.say-2.ensures
