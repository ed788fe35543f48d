use Rattle.ngc_plain_laws.proofs.TextMeanings.{lines_do_words}
use Rattle.ngc_plain_laws.proofs.laws.lines_do_words.Goals as goal

pub returns : goal.returns
returns c = lines_do_words
