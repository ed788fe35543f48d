use Rattle.ngc_machine_maker.proofs.dump_lines.say_stored.Goals as goal

pub returns : goal.returns
returns g c =
    rw c.or_zero-origin.ensures at c.say_origin.ensures
