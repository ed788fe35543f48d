use Rattle.ngc_report.proofs.warned.say_warned.Goals as goal

pub returns-in-Some : goal.returns-in-Some
returns-in-Some g c =
    rw (← c.warning_about.ensures, c.in-Some.is) c.say_lines.ensures
