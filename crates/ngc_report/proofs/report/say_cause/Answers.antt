use Rattle.ngc_report.proofs.report.say_cause.Goals as goal

pub returns-in-Some : goal.returns-in-Some
returns-in-Some g c =
    rw (c.in-Some.is, ← c.at-scene.ensures) c.say_scene.ensures
