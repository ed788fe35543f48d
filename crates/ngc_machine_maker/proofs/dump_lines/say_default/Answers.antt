use Rattle.ngc_machine_maker.specs.DumpLines.{default_line}
use Rattle.ngc_machine_maker.proofs.dump_lines.say_default.Goals as goal

pub returns : goal.returns
unfolding default_line
returns g c =
    rw (← c.from.ensures) c.say.ensures
