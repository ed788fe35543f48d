use Rattle.ngc_place_report.specs.Words.{here_words}
use Rattle.ngc_place_report.proofs.words.say_here.Goals as goal

pub returns-in-Fits : goal.returns-in-Fits
unfolding here_words
returns-in-Fits g c = rw c.in-Fits.is c.say.ensures

pub returns-in-NotCleared : goal.returns-in-NotCleared
unfolding here_words
returns-in-NotCleared g c = rw (c.in-NotCleared.is, ← c.setting_words.ensures, ← c.from.ensures) c.say-in-NotCleared.ensures
