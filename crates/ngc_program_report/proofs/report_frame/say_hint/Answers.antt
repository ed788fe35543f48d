use Rattle.ngc_program_report.proofs.report_frame.say_hint.Goals as goal

pub returns-in-Words : goal.returns-in-Words
returns-in-Words g c = rw (c.in-Words.is, ← c.from.ensures) c.say.ensures

pub returns-in-Json : goal.returns-in-Json
returns-in-Json g c = rw (c.in-Json.is, ← c.from.ensures) c.say-in-Json.ensures
