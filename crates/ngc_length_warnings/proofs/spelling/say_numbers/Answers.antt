use Rattle.ngc_length_warnings.proofs.spelling.say_numbers.Goals as goal

pub returns-in-Missing : goal.returns-in-Missing
returns-in-Missing g c = rw (c.in-Missing.is, ← c.number.ensures, ← c.signed.ensures) c.say.ensures

pub returns-in-Other : goal.returns-in-Other
returns-in-Other g c = rw (c.in-Other.is, ← c.number-in-Other.ensures, ← c.signed-in-Other.ensures, ← c.signed-in-Other-2.ensures) c.say-in-Other.ensures
