use Rattle.ngc_report.proofs.marks.say_no_tool.Goals as goal

pub returns : goal.returns
returns g c =
    rw (← c.from.ensures) c.say.ensures
