use Rattle.ngc_machine_maker.proofs.line.say_rounded.Goals as goal

pub returns : goal.returns
returns g c =
    c.say.ensures
