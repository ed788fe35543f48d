use Rattle.ngc_sentences.proofs.Said.{then}
use Rattle.ngc_machine_maker.specs.DumpLines.{axis_defaults}
use Rattle.ngc_machine_maker.proofs.dump_lines.say_axis_defaults.Goals as goal

pub returns : goal.returns
unfolding axis_defaults
returns g c =
    then (then c.say_default_if.ensures c.say_default_if-2.ensures) c.say_default_if-3.ensures
