use Rattle.ngc_machine_maker.proofs.file.say_rate.Goals as goal

pub returns : goal.returns
returns g c =
    rw (c.from.ensures, c.speed.ensures) at c.say_line.ensures
