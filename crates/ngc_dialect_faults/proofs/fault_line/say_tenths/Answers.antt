use Rattle.ngc_dialect_faults.proofs.fault_line.say_tenths.Goals as goal

pub returns : goal.returns
returns g c = rw (c.point_text.ensures, c.from.ensures, c.digit.ensures) at c.say.ensures
