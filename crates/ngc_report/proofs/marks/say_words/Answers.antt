use Rattle.ngc_sentences.proofs.Said.{then}
use Rattle.ngc_report.proofs.marks.say_words.Goals as goal

pub returns : goal.returns
returns g c =
    then c.say_phrase.ensures c.say.ensures
