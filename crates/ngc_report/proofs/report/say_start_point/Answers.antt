use Rattle.ngc_report.proofs.report.say_start_point.Goals as goal

pub returns : goal.returns
returns g c =
    rw (← c.start-scene.ensures, ← c.obstacle-cause.ensures) c.say_lines.ensures
