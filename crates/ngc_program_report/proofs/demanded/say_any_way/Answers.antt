use Rattle.ngc_program_report.proofs.demanded.say_any_way.Goals as goal

pub returns-in-Words : goal.returns-in-Words
returns-in-Words g c = rw c.in-Words.is c.say.ensures
