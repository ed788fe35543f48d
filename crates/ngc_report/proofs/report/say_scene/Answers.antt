use Rattle.ngc_report.proofs.report.say_scene.Goals as goal

pub returns-in-Some : goal.returns-in-Some
returns-in-Some g c =
    rw (c.in-Some.is, ← c.obstacle-cause.ensures, ← c.of-clearing.ensures) c.say_lines.ensures
