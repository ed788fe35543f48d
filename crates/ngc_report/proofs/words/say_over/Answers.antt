use Rattle.ngc_report.specs.Words.{over_text}
use Rattle.ngc_report.proofs.words.say_over.Goals as goal

pub returns-in-Some : goal.returns-in-Some
unfolding over_text
returns-in-Some g c =
    rw (c.in-Some.is, ← c.millimetres.ensures) c.say-in-Some.ensures
