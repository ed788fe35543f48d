use Rattle.ngc_place_report.proofs.words.say_missing_line.Goals as goal

pub returns : goal.returns
returns g c = rw (← c.code_text.ensures) c.say.ensures
