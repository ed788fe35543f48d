use Rattle.ngc_report.specs.Marks.{letter_text}
use Rattle.ngc_report.proofs.marks.say_unknown.Goals as goal

pub returns : goal.returns
unfolding letter_text
returns g c =
    rw (← c.length.ensures, ← c.letter_byte.ensures) c.say.ensures
