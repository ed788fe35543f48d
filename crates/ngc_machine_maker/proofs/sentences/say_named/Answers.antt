use Rattle.ngc_machine_maker.proofs.sentences.say_named.Goals as goal

pub returns : goal.returns
returns g c =
    c.say.ensures
