use Rattle.ngc_sentences.proofs.Said.{says_as}
use Rattle.ngc_report.proofs.facts.say_travel.Goals as goal

pub returns : goal.returns
returns g c =
    says_as c.say.ensures c.travel.ensures
