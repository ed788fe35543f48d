use Rattle.ngc_sentences.proofs.Said.{then}
use Rattle.ngc_word_warnings.proofs.written.say_all.Goals as goal

pub returns : goal.returns
returns g c =
    then (then (then (then c.say_slips.ensures c.say_slips-2.ensures) c.say_slips-3.ensures) c.say_slips-4.ensures) c.say_slips-5.ensures
