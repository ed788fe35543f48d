use Rattle.ngc_machine_maker.specs.DumpLines.{offset_text}
use Rattle.ngc_machine_maker.proofs.dump_lines.say_offset.Goals as goal

pub returns : goal.returns
unfolding offset_text
returns g c =
    c.say.ensures
