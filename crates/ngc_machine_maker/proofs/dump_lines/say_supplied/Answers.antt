use Rattle.ngc_sentences.proofs.Said.{then}
use Rattle.ngc_machine_maker.specs.DumpLines.{supplied_lines}
use Rattle.ngc_machine_maker.proofs.dump_lines.say_supplied.Goals as goal

pub returns : goal.returns
unfolding supplied_lines
returns g c =
    then (then (then (then c.say_default_if.ensures c.say_default_if-2.ensures) c.say_default_if-3.ensures) c.say_axis_defaults.ensures) c.say_axis_defaults-2.ensures
