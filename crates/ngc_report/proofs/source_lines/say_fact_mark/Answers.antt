use Rattle.ngc_report.proofs.source_lines.say_fact_mark.Goals as goal

pub returns : goal.returns
returns g c =
    rw (← c.from.ensures, ← c.from-2.ensures) c.say.ensures
