use Rattle.ngc_machine_maker.proofs.line.say_step.Goals as goal

pub returns : goal.returns
returns g c =
    rw (← c.from.ensures) c.say.ensures
