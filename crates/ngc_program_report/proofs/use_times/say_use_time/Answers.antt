use Rattle.ngc_program_report.specs.Times.{use_time}
use Rattle.ngc_program_report.proofs.use_times.say_use_time.Goals as goal

pub returns-in-Json : goal.returns-in-Json
unfolding use_time
returns-in-Json g c = rw (c.in-Json.is, ← c.tool_number.ensures, ← c.seconds_of.ensures) c.say-in-Json.ensures
