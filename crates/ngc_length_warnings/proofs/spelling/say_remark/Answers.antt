use Rattle.ngc_length_warnings.proofs.spelling.say_remark.Goals as goal

pub returns-in-Missing : goal.returns-in-Missing
returns-in-Missing g c = rw (c.in-Missing.is, ← c.number.ensures, ← c.millimetres.ensures) c.say.ensures

pub returns-in-Other : goal.returns-in-Other
returns-in-Other g c = rw (c.in-Other.is, ← c.millimetres-in-Other.ensures, ← c.number-in-Other.ensures, ← c.millimetres-in-Other-2.ensures) c.say-in-Other.ensures
