use Rattle.std.proofs.Common.{ap}
use Rattle.ngc_sentences.proofs.Said.{says_as, then}
use Rattle.ngc_length_warnings.specs.BoxTexts.{lower_words}
use Rattle.ngc_length_warnings.proofs.box_texts.say_fixture_words.Goals as goal

pub returns : goal.returns
returns g c =
    then c.say_first.ensures (then c.say_cut.ensures (says_as c.say_lower.ensures (ap (lower_words c.args.cut.now) c.each_words.ensures)))
