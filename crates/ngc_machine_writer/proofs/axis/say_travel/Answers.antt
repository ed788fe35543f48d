use Rattle.ngc_machine_writer.proofs.axis.say_travel.Goals as goal

pub returns-in-Low : goal.returns-in-Low
returns-in-Low g c = rw (c.in-Low.is, ← c.from.ensures) c.say.ensures

pub returns-in-High : goal.returns-in-High
returns-in-High g c = rw (c.in-High.is, ← c.from.ensures) c.say-in-High.ensures
