use Rattle.ngc_sentences.proofs.Said.{then}
use Rattle.ngc_machine_maker.specs.DumpLines.{origin_text}
use Rattle.ngc_machine_maker.proofs.dump_lines.say_origin.Goals as goal

pub returns : goal.returns
unfolding origin_text
returns g c =
    then (then (then (then c.say.ensures c.say_value.ensures) c.say-2.ensures) c.say_remark.ensures) c.say-3.ensures
