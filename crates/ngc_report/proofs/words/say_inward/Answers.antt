use Rattle.ngc_report.specs.Words.{inward_text}
use Rattle.ngc_report.proofs.words.say_inward.Goals as goal

pub returns-in-None : goal.returns-in-None
unfolding inward_text
returns-in-None g c =
    rw (c.in-None.is, ← c.axis_name.ensures) c.say.ensures

pub returns-in-Some : goal.returns-in-Some
unfolding inward_text
returns-in-Some g c =
    rw (c.in-Some.is, ← c.axis_name.ensures, ← c.shift.ensures, ← c.away.ensures) c.say-in-Some.ensures
