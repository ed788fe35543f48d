use Rattle.ngc_margins.proofs.report_lines.say_rapids.Goals as goal

pub returns-in-Free : goal.returns-in-Free
returns-in-Free g c = rw c.in-Free.is c.say.ensures
