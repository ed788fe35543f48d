use Rattle.ngc_report.specs.Marks.{letter_text, missing_text}
use Rattle.ngc_report.proofs.marks.say_missing.Goals as goal

pub returns-in-Axis : goal.returns-in-Axis
unfolding letter_text missing_text
returns-in-Axis g c =
    rw c.in-Axis.is c.say.ensures

pub returns-in-Letter : goal.returns-in-Letter
unfolding letter_text missing_text
returns-in-Letter g c =
    rw (c.in-Letter.is, ← c.letter_byte.ensures) c.say-in-Letter.ensures
