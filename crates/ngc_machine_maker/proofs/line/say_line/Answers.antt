use Rattle.ngc_sentences.proofs.Said.{then}
use Rattle.ngc_machine_maker.specs.Texts.{line_text}
use Rattle.ngc_machine_maker.proofs.line.say_line.Goals as goal

pub returns : goal.returns
unfolding line_text
returns g c =
    then (then (then (then c.say.ensures c.say_value.ensures) c.say-2.ensures) c.say_remark.ensures) c.say-3.ensures
