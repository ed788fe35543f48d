use Rattle.ngc_sentences.proofs.Said.{then, says_as}
use Rattle.ngc_setup_sheet.proofs.spelling.say_block.Goals as goal

pub returns : goal.returns
returns g c =
    then (then (then (then (says_as c.say.ensures c.place.ensures) c.say-2.ensures) (says_as c.say-3.ensures c.place-2.ensures)) c.say-4.ensures)
    c.say_block_system.ensures
