use Rattle.ngc_program_report.proofs.report_time.say_takes_line.Goals as goal

pub returns-in-Words : goal.returns-in-Words
returns-in-Words g c = rw (c.in-Words.is, ← c.clock_of.ensures, ← c.from.ensures) c.say.ensures

pub returns-in-Json : goal.returns-in-Json
returns-in-Json g c = rw (c.in-Json.is, ← c.seconds_of.ensures, ← c.from-in-Json.ensures) c.say-in-Json.ensures
