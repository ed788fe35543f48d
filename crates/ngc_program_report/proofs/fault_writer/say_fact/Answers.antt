use Rattle.ngc_program_report.proofs.fault_writer.say_fact.Goals as goal

pub returns : goal.returns
returns g c = rw (← c.line_value.ensures, ← c.from.ensures, ← c.truth.ensures, ← c.truth-2.ensures) c.say.ensures
