use Rattle.ngc_sentences.proofs.Said.{then}
use Rattle.ngc_machine_maker.proofs.file.say_notes.Goals as goal

pub returns : goal.returns
returns g c =
    then c.say_scale_note.ensures c.say_offset_after.ensures
